-- The grammar of final conditions: a tree's bytes are read as the tree, and nothing else is read. Assumes nothing.
--     number_read, number-made            a number and its eight bytes
--     comparison-reads, compares          a comparison
--     group_reads, group-comes            a group, over what is read as its members
--     reads_so, only_so                   a tree
--     grammar                             a whole condition
use Prim.Native.Nat.{ℕ, zero, suc, ◌+◌, ◌*◌, ◌/◌, ◌%◌, ◌≤◌, ◌<◌}
use mathlib.Core.List.{List, [], ◌∷◌, ◌++◌, append_assoc, append-nil}
use mathlib.Core.Bool.{Bool, true, false, cond, ◌&&◌, ◌||◌, and-eq-true_iff, true≢false}
use mathlib.Core.Path.{◌≡◌, refl, ap, sym, subst, ◌∙◌}
use mathlib.Core.Logic.{◌⊎◌, inl, inr}
use native.Mathlib.Omega.{arith}
use lib.Dec.{ltb, leb, eqb}
use lib.ListN.{length, get_or, drop, length-append}
use borrow.Author.Tests.{le-leb, lt-ltb, leb-true, ltb-true, eqb-true, ne_eqb}
use Rattle.rules.specs.Event.{little}
use Rattle.rules.specs.Change.{word}
use Rattle.rules.specs.Table.{u16_at, u32_at, u64_at, is_register}
use Rattle.rules.specs.Condition as Condition
use Rattle.rules.specs.Condition.{Read, bad, read, next_byte, behind, group_at, comparison_at, condition_at, joined_by, is_sign}
use Rattle.rules.specs.ConditionTree as Tree
use Rattle.rules.specs.ConditionTree.{Comparison, Joint, all, some, Group, Deep, comparison, group, leaf_bytes, joint_of, others_of, group_of, tree_bytes, hold, comparison_holds, claims, FineComparison, FineAll, Fine, AllBytes, Grammar}
use Rattle.rules.proofs.MeasureRows.{both_left, both_right}

-- Numbers

-- the eight bytes of a number are read as the number
number_read : (s t r n : ℕ) (rest : List ℕ) → n < word → u64_at (s ∷ t ∷ r ∷ (little 8 n ++ rest)) 3 ≡ n
unfolding u64_at u32_at u16_at little
number_read s t r n rest h = omega arith

-- the lowest byte of a number, and the others
low : (b m : ℕ) → b < 256 → (b + 256 * m) % 256 ≡ b
low b m h = omega arith

high : (b m : ℕ) → b < 256 → (b + 256 * m) / 256 ≡ m
high b m h = omega arith

-- a number by its bytes
horner : List ℕ → ℕ
horner [] = 0
horner (b ∷ bs) = b + 256 * horner bs

little-horner : (bs : List ℕ) → AllBytes bs → little (length bs) (horner bs) ≡ bs
unfolding little horner
little-horner [] h = refl
little-horner (b ∷ bs) h = rw (low b (horner bs) h.0, high b (horner bs) h.0, little-horner bs h.1) refl

-- and eight bytes are those of the number that is read
number-made : (s t r a b c d e f g h : ℕ) (rest : List ℕ) → AllBytes (a ∷ b ∷ c ∷ d ∷ e ∷ f ∷ g ∷ h ∷ []) →
    little 8 (u64_at (s ∷ t ∷ r ∷ a ∷ b ∷ c ∷ d ∷ e ∷ f ∷ g ∷ h ∷ rest) 3) ≡ a ∷ b ∷ c ∷ d ∷ e ∷ f ∷ g ∷ h ∷ []
unfolding u64_at u32_at u16_at horner
number-made s t r a b c d e f g h rest k =
    let z : u64_at (s ∷ t ∷ r ∷ a ∷ b ∷ c ∷ d ∷ e ∷ f ∷ g ∷ h ∷ rest) 3 ≡ horner (a ∷ b ∷ c ∷ d ∷ e ∷ f ∷ g ∷ h ∷ []) = omega arith in
    ap (little 8) z ∙ little-horner (a ∷ b ∷ c ∷ d ∷ e ∷ f ∷ g ∷ h ∷ []) k

number-below : (s t r a b c d e f g h : ℕ) (rest : List ℕ) → AllBytes (a ∷ b ∷ c ∷ d ∷ e ∷ f ∷ g ∷ h ∷ []) →
    u64_at (s ∷ t ∷ r ∷ a ∷ b ∷ c ∷ d ∷ e ∷ f ∷ g ∷ h ∷ rest) 3 < word
unfolding u64_at u32_at u16_at
number-below s t r a b c d e f g h rest k = omega (arith, k.0, k.1.0, k.1.1.0, k.1.1.1.0, k.1.1.1.1.0, k.1.1.1.1.1.0, k.1.1.1.1.1.1.0, k.1.1.1.1.1.1.1.0)

-- Comparisons

and-true : {a b : Bool} → a ≡ true → b ≡ true → (a && b) ≡ true
and-true p q = rw (p, q) refl

when_true : {A : Type 0} (b : Bool) (x y : A) → b ≡ true → cond b x y ≡ x
when_true b x y e = rw e refl

when_false : {A : Type 0} (b : Bool) (x y : A) → b ≡ false → cond b x y ≡ y
when_false b x y e = rw e refl

module _ (threads : ℕ) (register : ℕ → ℕ → ℕ) where
  comparison-reads : (c : Comparison) → FineComparison threads c → (rest : List ℕ) →
      comparison_at threads register (leaf_bytes c ++ rest) ≡ read (comparison_holds register c) rest
  unfolding comparison_at little
  comparison-reads c h rest =
      when_true _ (read (Condition.compared c.sign (register c.thread c.register) (u64_at (leaf_bytes c ++ rest) 3)) rest) (bad (leaf_bytes c ++ rest))
      (and-true (and-true (and-true (le-leb 11 (length (leaf_bytes c ++ rest)) (omega arith)) h.0) (lt-ltb c.thread threads h.1)) (lt-ltb c.register 4 h.2))
      ∙ ap (λ (n : ℕ). read (Condition.compared c.sign (register c.thread c.register) n) rest) (number_read c.sign c.thread c.register c.number rest h.3)

-- Groups

-- the members from here on, joined one by one
join_all : {M : Type 0} → (M → Bool) → Joint → Bool → List M → Bool
join_all means joint v [] = v
join_all means joint v (m ∷ more) = join_all means joint (joined_by (joint_of joint) v (means m)) more

join-all : {M : Type 0} (means : M → Bool) (v : Bool) (more : List M) → join_all means all v more ≡ (v && hold means all more)
unfolding join_all
join-all means true [] = refl
join-all means false [] = refl
join-all means true (m ∷ more) = join-all means (means m) more
join-all means false (m ∷ more) = join-all means false more

join-some : {M : Type 0} (means : M → Bool) (v : Bool) (more : List M) → join_all means some v more ≡ (v || hold means some more)
unfolding join_all
join-some means true [] = refl
join-some means false [] = refl
join-some means true (m ∷ more) = join-some means true more
join-some means false (m ∷ more) = join-some means (means m) more

joined-hold : {M : Type 0} (means : M → Bool) (joint : Joint) (m : M) (more : List M) →
    join_all means joint (means m) more ≡ hold means joint (m ∷ more)
joined-hold means all m more = join-all means (means m) more
joined-hold means some m more = join-some means (means m) more

module _ {M : Type 0} (member : List ℕ → Read) (bytes : M → List ℕ) (means : M → Bool) where
  abbrev Reads : M → Type 0
  Reads m = (rest : List ℕ) → member (bytes m ++ rest) ≡ read (means m) rest

  others-long : (joint : Joint) (more : List M) → length more < length (others_of bytes joint more)
  others-long joint [] = omega arith
  others-long joint (m ∷ more) = omega (arith, others-long joint more, length-append (bytes m) (others_of bytes joint more))

  may-join : (joint : Joint) (j : ℕ) → (j ≡ 0) ⊎ (j ≡ joint_of joint) → Condition.may_join j (joint_of joint) ≡ true
  may-join all j (inl e) = rw e refl
  may-join all j (inr e) = rw e refl
  may-join some j (inl e) = rw e refl
  may-join some j (inr e) = rw e refl

  behind-joins : (n j : ℕ) (v : Bool) (b : ℕ) (bs : List ℕ) (w : Bool) (rest : List ℕ) → eqb b Condition.closes ≡ false →
      Condition.may_join j b ≡ true → member bs ≡ read w rest →
      behind member (suc n) j v (b ∷ bs) ≡ behind member n b (joined_by b v w) rest
  unfolding behind
  behind-joins n j v b bs w rest e f g = rw (behind, e, f, g)

  no-close : (joint : Joint) → eqb (joint_of joint) Condition.closes ≡ false
  no-close all = refl
  no-close some = refl

  -- with fuel for each
  behind-reads : (joint : Joint) (n j : ℕ) → (j ≡ 0) ⊎ (j ≡ joint_of joint) → (v : Bool) (more : List M) → FineAll Reads more →
      length more < n → (rest : List ℕ) → behind member n j v (others_of bytes joint more ++ rest) ≡ read (join_all means joint v more) rest
  unfolding behind join_all
  behind-reads joint zero j a v more h k rest = absurd (omega arith)
  behind-reads joint (suc n) j a v [] h k rest = refl
  behind-reads joint (suc n) j a v (m ∷ more) h k rest =
      behind-joins n j v (joint_of joint) ((bytes m ++ others_of bytes joint more) ++ rest) (means m) (others_of bytes joint more ++ rest) (no-close joint) (may-join joint j a)
      (ap member (append_assoc (bytes m) (others_of bytes joint more) rest) ∙ h.0 (others_of bytes joint more ++ rest))
      ∙ behind-reads joint n (joint_of joint) (inr refl) (joined_by (joint_of joint) v (means m)) more h.1 (omega arith) rest

  group_reads : (g : Group M) → FineAll Reads (g.first ∷ g.others) → (rest : List ℕ) →
      group_at member (drop 1 (group_of bytes g ++ rest)) ≡ read (hold means g.joint (g.first ∷ g.others)) rest
  group_reads g h rest =
      let tail = others_of bytes g.joint g.others in
      let bs = (bytes g.first ++ tail) ++ rest in
      let e : member bs ≡ read (means g.first) (tail ++ rest) = ap member (append_assoc (bytes g.first) tail rest) ∙ h.0 (tail ++ rest) in
      let k : length g.others < length bs =
      omega (arith, others-long g.joint g.others, length-append (bytes g.first ++ tail) rest, length-append (bytes g.first) tail) in
      ap (λ (r : Read). elim r [ bad more ↦ bad more | read v more ↦ behind member (length bs) 0 v more ]) e
      ∙ behind-reads g.joint (length bs) 0 (inl refl) (means g.first) g.others h.1 k rest
      ∙ ap (λ (v : Bool). read v rest) (joined-hold means g.joint g.first g.others)

-- Trees

fine-all : {M : Type 0} (P Q : M → Type 0) → ((m : M) → P m → Q m) → (ms : List M) → FineAll P ms → FineAll Q ms
fine-all P Q f [] h = tt
fine-all P Q f (m ∷ ms) h = (f m h.0, fine-all P Q f ms h.1)

sign_below : (b : ℕ) → is_sign b ≡ true → b ≤ 6
sign_below b e = let f = simp and-eq-true_iff at e in omega (arith, leb-true)

module _ (threads : ℕ) (register : ℕ → ℕ → ℕ) where
  reads_so : (d : ℕ) (c : Deep d) → Fine threads d c → (rest : List ℕ) →
      condition_at threads register d (tree_bytes d c ++ rest) ≡ read (claims register d c) rest
  unfolding condition_at tree_bytes claims
  reads_so zero c h rest = comparison-reads threads register c h rest
  reads_so (suc d) (comparison c) h rest =
      let bs = leaf_bytes c ++ rest in
      when_false (eqb c.sign Condition.opens) (group_at (condition_at threads register d) (drop 1 bs)) (comparison_at threads register bs)
      (ne_eqb c.sign Condition.opens (λ e. omega (arith, sign_below c.sign h.0)))
      ∙ comparison-reads threads register c h rest
  reads_so (suc d) (group g) h rest =
      group_reads (condition_at threads register d) (tree_bytes d) (claims register d) g
      (fine-all (Fine threads d) (Reads (condition_at threads register d) (tree_bytes d) (claims register d)) (λ m k r. reads_so d m k r) (g.first ∷ g.others) h) rest

-- What is read is a tree

rest_in : Read → List ℕ
rest_in (bad rest) = rest
rest_in (read v rest) = rest

is_read : Read → ℕ
is_read (bad rest) = 0
is_read (read v rest) = 1

same_read : {v w : Bool} {a b : List ℕ} → read v a ≡ read w b → (v ≡ w) × (a ≡ b)
unfolding rest_in
same_read e = (ap Condition.holds_in e, ap rest_in e)

not-read : {A : Type 0} {v : Bool} {a b : List ℕ} → bad a ≡ read v b → A
unfolding is_read
not-read e = let z : ◌≡◌ {A = ℕ} 0 1 = ap is_read e in absurd (omega arith)

-- bytes that do not begin with 0 begin with one
begins : (bs : List ℕ) (b : ℕ) → next_byte bs ≡ b → 1 ≤ b → bs ≡ b ∷ drop 1 bs
begins [] b e h = absurd (omega (arith, e))
begins (c ∷ bs) b e h = ap (λ (x : ℕ). x ∷ bs) e

bytes-front : (xs ys : List ℕ) → AllBytes (xs ++ ys) → AllBytes xs
bytes-front [] ys h = tt
bytes-front (x ∷ xs) ys h = (h.0, bytes-front xs ys h.1)

bytes-behind : (xs ys : List ℕ) → AllBytes (xs ++ ys) → AllBytes ys
bytes-behind [] ys h = h
bytes-behind (x ∷ xs) ys h = bytes-behind xs ys h.1

bytes_past : (bs : List ℕ) → AllBytes bs → AllBytes (drop 1 bs)
bytes_past [] h = tt
bytes_past (b ∷ bs) h = h.1

joint-is : (b : ℕ) → Condition.is_joint b ≡ true → (joint : Joint) × (b ≡ joint_of joint)
joint-is b e = go (eqb b Condition.both) refl e
  where
    go : (x : Bool) → eqb b Condition.both ≡ x → (x || eqb b Condition.either) ≡ true → (joint : Joint) × (b ≡ joint_of joint)
    go true f k = (all, eqb-true b Condition.both f)
    go false f k = (some, eqb-true b Condition.either k)

module _ (threads : ℕ) (register : ℕ → ℕ → ℕ) where
  -- a comparison
  record Compares (bs : List ℕ) (v : Bool) (rest : List ℕ) : Type 0 where
    it : Comparison
    fine : FineComparison threads it
    is : bs ≡ leaf_bytes it ++ rest
    meant : v ≡ comparison_holds register it

  compares : (bs : List ℕ) → AllBytes bs → (v : Bool) (rest : List ℕ) → comparison_at threads register bs ≡ read v rest → Compares bs v rest
  unfolding comparison_at
  compares bs k v rest e =
      go (leb Condition.comparison_bytes (length bs) && is_sign (next_byte bs) && ltb (get_or bs 1 0) threads && is_register (get_or bs 2 0)) refl e
    where
      it : List ℕ → Comparison
      it cs = record { sign = get_or cs 0 0; thread = get_or cs 1 0; register = get_or cs 2 0; number = u64_at cs 3 }

      front : (cs : List ℕ) → AllBytes cs → 11 ≤ length cs → (cs ≡ leaf_bytes (it cs) ++ drop 11 cs) × (u64_at cs 3 < word)
      front [] h l = absurd (omega arith)
      front (s ∷ []) h l = absurd (omega arith)
      front (s ∷ t ∷ []) h l = absurd (omega arith)
      front (s ∷ t ∷ r ∷ []) h l = absurd (omega arith)
      front (s ∷ t ∷ r ∷ a ∷ []) h l = absurd (omega arith)
      front (s ∷ t ∷ r ∷ a ∷ b ∷ []) h l = absurd (omega arith)
      front (s ∷ t ∷ r ∷ a ∷ b ∷ c ∷ []) h l = absurd (omega arith)
      front (s ∷ t ∷ r ∷ a ∷ b ∷ c ∷ d ∷ []) h l = absurd (omega arith)
      front (s ∷ t ∷ r ∷ a ∷ b ∷ c ∷ d ∷ e ∷ []) h l = absurd (omega arith)
      front (s ∷ t ∷ r ∷ a ∷ b ∷ c ∷ d ∷ e ∷ f ∷ []) h l = absurd (omega arith)
      front (s ∷ t ∷ r ∷ a ∷ b ∷ c ∷ d ∷ e ∷ f ∷ g ∷ []) h l = absurd (omega arith)
      front (s ∷ t ∷ r ∷ a ∷ b ∷ c ∷ d ∷ e ∷ f ∷ g ∷ i ∷ cs) h l =
          let eight = bytes-front (a ∷ b ∷ c ∷ d ∷ e ∷ f ∷ g ∷ i ∷ []) cs h.1.1.1 in
          (ap (λ (x : List ℕ). s ∷ t ∷ r ∷ (x ++ cs)) (sym (number-made s t r a b c d e f g i cs eight)), number-below s t r a b c d e f g i cs eight)

      go : (b : Bool) → (leb Condition.comparison_bytes (length bs) && is_sign (next_byte bs) && ltb (get_or bs 1 0) threads && is_register (get_or bs 2 0)) ≡ b →
          cond b (read (Condition.compared (next_byte bs) (register (get_or bs 1 0) (get_or bs 2 0)) (u64_at bs 3)) (drop Condition.comparison_bytes bs)) (bad bs) ≡ read v rest →
          Compares bs v rest
      go false f g = not-read g
      go true f g =
          let q = simp and-eq-true_iff at f in
          let s = same_read g in
          let h = front bs k (omega (arith, leb-true)) in
          record {
            it = it bs;
            fine = (and-true q.0.0.1.0 q.0.0.1.1, ltb-true (get_or bs 1 0) threads q.0.1, ltb-true (get_or bs 2 0) 4 q.1, h.1);
            is = h.0 ∙ ap (λ (x : List ℕ). leaf_bytes (it bs) ++ x) s.1;
            meant = sym s.0;
          }

-- a group's members, by what is read as a member
module _ {M : Type 0} (member : List ℕ → Read) (bytes : M → List ℕ) (means : M → Bool) (P : M → Type 0) where
  record Is (bs : List ℕ) (v : Bool) (rest : List ℕ) : Type 0 where
    it : M
    fine : P it
    is : bs ≡ bytes it ++ rest
    meant : v ≡ means it

  -- those behind the first, where the joint is known or not
  record Others (j : ℕ) (v : Bool) (bs : List ℕ) (x : Bool) (rest : List ℕ) : Type 0 where
    joint : Joint
    allowed : (j ≡ 0) ⊎ (j ≡ joint_of joint)
    more : List M
    fine : FineAll P more
    is : bs ≡ others_of bytes joint more ++ rest
    meant : x ≡ join_all means joint v more

  closed : (j : ℕ) → (j ≡ 0) ⊎ (Condition.is_joint j ≡ true) → (v : Bool) (bs : List ℕ) (x : Bool) (rest : List ℕ) →
      bs ≡ Condition.closes ∷ rest → x ≡ v → Others j v bs x rest
  unfolding join_all
  closed j (inl e) v bs x rest f g = record { joint = all; allowed = inl e; more = []; fine = tt; is = f; meant = g }
  closed j (inr e) v bs x rest f g =
      let k = joint-is j e in record { joint = k.0; allowed = inr k.1; more = []; fine = tt; is = f; meant = g }

  joint-some : (b : ℕ) → Condition.is_joint b ≡ true → 1 ≤ b
  joint-some b e = let k = joint-is b e in go k.0 k.1
    where
      go : (joint : Joint) → b ≡ joint_of joint → 1 ≤ b
      go all f = omega (arith, f)
      go some f = omega (arith, f)

  may-know : (j b : ℕ) → Condition.may_join j b ≡ true → (Condition.is_joint b ≡ true) × ((j ≡ 0) ⊎ (j ≡ b))
  may-know j b e = (both_left (Condition.is_joint b) _ e, go (eqb j 0) refl (both_right (Condition.is_joint b) _ e))
    where
      go : (x : Bool) → eqb j 0 ≡ x → (x || eqb j b) ≡ true → (j ≡ 0) ⊎ (j ≡ b)
      go true f k = inl (eqb-true j 0 f)
      go false f k = inr (eqb-true j b k)

  module _ (comes : (bs : List ℕ) → AllBytes bs → (v : Bool) (rest : List ℕ) → member bs ≡ read v rest → Is bs v rest) where
    and_one : (j b : ℕ) (v : Bool) (bs : List ℕ) (w : Bool) (mid : List ℕ) (x : Bool) (rest : List ℕ) → bs ≡ b ∷ drop 1 bs → 1 ≤ b →
        (j ≡ 0) ⊎ (j ≡ b) → Is (drop 1 bs) w mid → Others b (joined_by b v w) mid x rest → Others j v bs x rest
    unfolding join_all
    and_one j b v bs w mid x rest e h a m o =
        let z : b ≡ joint_of o.joint = elim o.allowed [ inl n ↦ absurd (omega (arith, n)) | inr y ↦ y ] in
        record {
          joint = o.joint;
          allowed = elim a [ inl n ↦ inl n | inr y ↦ inr (y ∙ z) ];
          more = m.it ∷ o.more;
          fine = (m.fine, o.fine);
          is =
              e ∙ ap (λ (k : ℕ). k ∷ drop 1 bs) z
              ∙ ap (λ (l : List ℕ). joint_of o.joint ∷ l)
              (m.is ∙ ap (λ (l : List ℕ). bytes m.it ++ l) o.is
              ∙ sym (append_assoc (bytes m.it) (others_of bytes o.joint o.more) rest));
          meant = o.meant ∙ ap (λ (y : Bool). join_all means o.joint y o.more) (cc (z, m.meant));
        }

    others-come : (n j : ℕ) → (j ≡ 0) ⊎ (Condition.is_joint j ≡ true) → (v : Bool) (bs : List ℕ) → AllBytes bs → (x : Bool) (rest : List ℕ) →
        behind member n j v bs ≡ read x rest → Others j v bs x rest
    unfolding behind
    others-come zero j a v bs k x rest e = not-read e
    others-come (suc n) j a v bs k x rest e =
        at_close (λ i b w more h g. others-come n i b w more h x rest g) (eqb (next_byte bs) Condition.closes) refl e
      where
        Further : Type 0
        Further = (i : ℕ) → (i ≡ 0) ⊎ (Condition.is_joint i ≡ true) → (w : Bool) (more : List ℕ) → AllBytes more →
            behind member n i w more ≡ read x rest → Others i w more x rest

        at_member : Further → (r : Read) → member (drop 1 bs) ≡ r → Condition.may_join j (next_byte bs) ≡ true →
            elim r [ bad more ↦ bad more | read w more ↦ behind member n (next_byte bs) (joined_by (next_byte bs) v w) more ] ≡ read x rest →
            Others j v bs x rest
        at_member further (bad more) f m g = not-read g
        at_member further (read w more) f m g =
            let know = may-know j (next_byte bs) m in
            let one = joint-some (next_byte bs) know.0 in
            let it = comes (drop 1 bs) (bytes_past bs k) w more f in
            and_one j (next_byte bs) v bs w more x rest (begins bs (next_byte bs) refl one) one know.1 it
            (further (next_byte bs) (inr know.0) (joined_by (next_byte bs) v w) more
            (bytes-behind (bytes it.it) more (subst AllBytes it.is (bytes_past bs k))) g)

        at_joint : Further → (b : Bool) → Condition.may_join j (next_byte bs) ≡ b →
            elim b [
              | false ↦ bad bs
              | true ↦ elim (member (drop 1 bs)) [ bad more ↦ bad more | read w more ↦ behind member n (next_byte bs) (joined_by (next_byte bs) v w) more ]
            ] ≡ read x rest →
            Others j v bs x rest
        at_joint further false f g = not-read g
        at_joint further true f g = at_member further (member (drop 1 bs)) refl f g

        at_close : Further → (b : Bool) → eqb (next_byte bs) Condition.closes ≡ b →
            elim b [
              | true ↦ read v (drop 1 bs)
              | false ↦
                  elim (Condition.may_join j (next_byte bs)) [
                    | false ↦ bad bs
                    | true ↦ elim (member (drop 1 bs)) [ bad more ↦ bad more | read w more ↦ behind member n (next_byte bs) (joined_by (next_byte bs) v w) more ]
                  ]
            ] ≡ read x rest →
            Others j v bs x rest
        at_close further true f g =
            let s = same_read g in
            closed j a v bs x rest
            (begins bs Condition.closes (eqb-true (next_byte bs) Condition.closes f) (omega arith) ∙ ap (λ (l : List ℕ). Condition.closes ∷ l) s.1) (sym s.0)
        at_close further false f g = at_joint further (Condition.may_join j (next_byte bs)) refl g

    group-comes : (bs : List ℕ) → AllBytes bs → (x : Bool) (rest : List ℕ) → next_byte bs ≡ Condition.opens → group_at member (drop 1 bs) ≡ read x rest →
        (g : Group M) × FineAll P (g.first ∷ g.others) × (bs ≡ group_of bytes g ++ rest) × (x ≡ hold means g.joint (g.first ∷ g.others))
    group-comes bs k x rest o e = go (member (drop 1 bs)) refl e
      where
        go : (r : Read) → member (drop 1 bs) ≡ r →
            elim r [ bad more ↦ bad more | read v more ↦ behind member (length (drop 1 bs)) 0 v more ] ≡ read x rest →
            (g : Group M) × FineAll P (g.first ∷ g.others) × (bs ≡ group_of bytes g ++ rest) × (x ≡ hold means g.joint (g.first ∷ g.others))
        go (bad more) f g = not-read g
        go (read v more) f g =
            let m = comes (drop 1 bs) (bytes_past bs k) v more f in
            let t =
            others-come (length (drop 1 bs)) 0 (inl refl) v more (bytes-behind (bytes m.it) more (subst AllBytes m.is (bytes_past bs k))) x rest g in
            let tail = others_of bytes t.joint t.more in (
              record { joint = t.joint; first = m.it; others = t.more },
              (m.fine, t.fine),
              begins bs Condition.opens o (omega arith)
                  ∙ ap (λ (l : List ℕ). Condition.opens ∷ l)
                  (m.is ∙ ap (λ (l : List ℕ). bytes m.it ++ l) t.is ∙ sym (append_assoc (bytes m.it) tail rest)),
              t.meant ∙ ap (λ (y : Bool). join_all means t.joint y t.more) m.meant ∙ joined-hold means t.joint m.it t.more,
            )

module _ (threads : ℕ) (register : ℕ → ℕ → ℕ) where
  only_so : (d : ℕ) (bs : List ℕ) → AllBytes bs → (v : Bool) (rest : List ℕ) →
      condition_at threads register d bs ≡ read v rest → Tree.BeginsTree threads register d bs v rest
  unfolding condition_at tree_bytes claims
  only_so zero bs k v rest e =
      let c = compares threads register bs k v rest e in record { tree = c.it; fine = c.fine; is = c.is; meant = c.meant }
  only_so (suc d) bs k v rest e = go (λ cs l w more f. only_so d cs l w more f) (eqb (next_byte bs) Condition.opens) refl e
    where
      go : ((cs : List ℕ) → AllBytes cs → (w : Bool) (more : List ℕ) → condition_at threads register d cs ≡ read w more → Tree.BeginsTree threads register d cs w more) →
          (b : Bool) → eqb (next_byte bs) Condition.opens ≡ b →
          cond b (group_at (condition_at threads register d) (drop 1 bs)) (comparison_at threads register bs) ≡ read v rest →
          Tree.BeginsTree threads register (suc d) bs v rest
      go inner true o f =
          let g =
          group-comes (condition_at threads register d) (tree_bytes d) (claims register d) (Fine threads d)
          (λ cs l w more h. let t = inner cs l w more h in record { it = t.tree; fine = t.fine; is = t.is; meant = t.meant })
          bs k v rest (eqb-true (next_byte bs) Condition.opens o) f in
          record { tree = group g.0; fine = g.1; is = g.2; meant = g.3 }
      go inner false o f =
          let c = compares threads register bs k v rest f in
          record { tree = comparison c.it; fine = c.fine; is = c.is; meant = c.meant }

-- A whole condition

tree-some : (d : ℕ) (c : Deep d) → 1 ≤ length (tree_bytes d c)
unfolding tree_bytes
tree-some zero c = omega arith
tree-some (suc d) (comparison c) = omega arith
tree-some (suc d) (group g) = omega arith

claim-is : (threads : ℕ) (register : ℕ → ℕ → ℕ) (bs : List ℕ) → 1 ≤ length bs →
    Condition.claim_at threads register bs ≡ condition_at threads register Condition.groups_deep bs
claim-is threads register [] h = absurd (omega arith)
claim-is threads register (b ∷ bs) h = refl

claims-so : (threads : ℕ) (register : ℕ → ℕ → ℕ) (c : Deep Condition.groups_deep) → Fine threads Condition.groups_deep c →
    Condition.claim_at threads register (tree_bytes Condition.groups_deep c) ≡ read (claims register Condition.groups_deep c) []
claims-so threads register c h =
    claim-is threads register (tree_bytes Condition.groups_deep c) (tree-some Condition.groups_deep c)
    ∙ ap (condition_at threads register Condition.groups_deep) (sym (append-nil (tree_bytes Condition.groups_deep c)))
    ∙ reads_so threads register Condition.groups_deep c h []

none_left : (rest : List ℕ) → eqb (length rest) 0 ≡ true → rest ≡ []
none_left [] e = refl
none_left (b ∷ rest) e = absurd (omega (arith, eqb-true (length (b ∷ rest)) 0 e))

ended : (r : Read) → Condition.ends r ≡ true → (v : Bool) × (r ≡ read v [])
ended (bad rest) e = absurd (true≢false (sym e))
ended (read v rest) e = (v, ap (read v) (none_left rest e))

whole : (threads : ℕ) (bs : List ℕ) → AllBytes bs → Condition.ends (Condition.claim_at threads (λ t r. 0) bs) ≡ true →
    (bs ≡ []) ⊎ Tree.Accepted threads bs
unfolding Condition.holds
whole threads [] k e = inl refl
whole threads (b ∷ bs) k e =
    let r = ended (condition_at threads (λ t r. 0) Condition.groups_deep (b ∷ bs)) e in
    let t = only_so threads (λ t r. 0) Condition.groups_deep (b ∷ bs) k r.0 [] r.1 in
    let z : b ∷ bs ≡ tree_bytes Condition.groups_deep t.tree = t.is ∙ append-nil (tree_bytes Condition.groups_deep t.tree) in
    inr (record {
      tree = t.tree;
      fine = t.fine;
      is = z;
      meant = λ register.
          ap (λ (l : List ℕ). Condition.holds_in (Condition.claim_at threads register l)) z
          ∙ ap Condition.holds_in (claims-so threads register t.tree t.fine);
    })

pub grammar : Grammar
unfolding Condition.is_condition
grammar = record {
  reads = reads_so;
  only = only_so;
  accepts = λ threads c h few.
      and-true (le-leb _ Condition.condition_bytes few) (ap Condition.ends (claims-so threads (λ t r. 0) c h));
  accepted = λ threads bs k e. whole threads bs k (both_right (leb (length bs) Condition.condition_bytes) _ e);
}
