-- A condition that the definition takes is one that can be written. Assumes nothing.
--     fine-condition       by what it is read as
--     fine-claim           a whole condition, or none
use Prim.Native.Nat.{ℕ, zero, suc, ◌≤◌}
use mathlib.Core.List.{List, [], ◌∷◌}
use mathlib.Core.Bool.{Bool, true, false, true≢false, cond, ◌&&◌, ◌||◌, and-eq-true_iff}
use mathlib.Core.Path.{◌≡◌, refl, ap, sym, subst, ◌∙◌}
use native.Mathlib.Omega.{arith}
use borrow.Author.Tests.{leb-true, ltb-true, eqb-true}
use lib.Dec.{ltb, leb, eqb}
use lib.ListN.{length, get_or, drop}
use Rattle.rules.specs.Table.{u64_at, is_register}
use Rattle.rules.specs.Condition.{is_sign, is_joint, may_join, joined_by, opens, closes, both, either, next_byte, compared, comparison_bytes, condition_bytes, groups_deep, Read, bad, read, behind, group_at, comparison_at, condition_at, claim_at, ends, is_condition}
use Rattle.condition_line.specs.Units.{Units, none, word, comparison}

-- what is behind it makes the whole
abbrev Fine : (List ℕ → Read) → Type 0
Fine member = (bs : List ℕ) (v : Bool) (rest : List ℕ) → member bs ≡ read v rest → Units rest → Units bs

-- a byte that is no sign, by its number
no_sign : (b n : ℕ) → b ≡ n → is_sign n ≡ false → is_sign b ≡ false
no_sign b n e s = ap is_sign e ∙ s

no-joint : (b : ℕ) → is_joint b ≡ true → is_sign b ≡ false
no-joint b j =
    (elim (eqb b both) as (λ t. eqb b both ≡ t → t || eqb b either ≡ true → is_sign b ≡ false) [
      | true ↦ λ e k. no_sign b 9 (eqb-true b 9 e) refl
      | false ↦ λ e k. no_sign b 10 (eqb-true b 10 k) refl
    ]) refl j

module _ (member : List ℕ → Read) (fine : Fine member) where
  -- what comes behind a member, as it is read
  abbrev further : ℕ → ℕ → Bool → Read → Read
  further n joint v r = elim r [ bad rest ↦ bad rest | read w rest ↦ behind member n joint (joined_by joint v w) rest ]

  abbrev on : ℕ → ℕ → Bool → ℕ → List ℕ → Bool → Read
  on n joint v b bs t = elim t [ false ↦ bad (b ∷ bs) | true ↦ further n b v (member bs) ]

  abbrev at : ℕ → ℕ → Bool → ℕ → List ℕ → Bool → Read
  at n joint v b bs t = elim t [ true ↦ read v bs | false ↦ on n joint v b bs (may_join joint b) ]

  at_next : (n joint : ℕ) (v : Bool) (b : ℕ) (bs : List ℕ) → behind member (suc n) joint v (b ∷ bs) ≡ at n joint v b bs (eqb b closes)
  unfolding behind
  at_next n joint v b bs = refl

  behind-none : (n joint : ℕ) (v : Bool) → behind member n joint v [] ≡ bad []
  unfolding behind
  behind-none zero joint v = refl
  behind-none (suc n) joint v = refl

  behind-zero : (joint : ℕ) (v : Bool) (bs : List ℕ) → behind member zero joint v bs ≡ bad bs
  unfolding behind
  behind-zero joint v bs = refl

  fine-behind : (n joint : ℕ) (v : Bool) (bs : List ℕ) (w : Bool) (rest : List ℕ) → behind member n joint v bs ≡ read w rest → Units rest → Units bs
  fine-behind zero joint v bs w rest e u = absurd (let z : ◌≡◌ {A = ℕ} 0 1 = cc (behind-zero joint v bs) in omega arith)
  fine-behind (suc n) joint v [] w rest e u = none
  fine-behind (suc n) joint v (b ∷ bs) w rest e u = closing (λ x other k. fine-behind n b (joined_by b v x) other w rest k u) (eqb b closes) refl (sym (at_next n joint v b bs) ∙ e)
    where
      joining : ((x : Bool) (other : List ℕ) → behind member n b (joined_by b v x) other ≡ read w rest → Units other) → (r : Read) → member bs ≡ r → further n b v r ≡ read w rest → Units bs
      joining go (bad other) m k = absurd (let z : ◌≡◌ {A = ℕ} 0 1 = cc in omega arith)
      joining go (read x other) m k = fine bs x other m (go x other k)

      may : ((x : Bool) (other : List ℕ) → behind member n b (joined_by b v x) other ≡ read w rest → Units other) → (t : Bool) → may_join joint b ≡ t → on n joint v b bs t ≡ read w rest → Units (b ∷ bs)
      may go false t k = absurd (let z : ◌≡◌ {A = ℕ} 0 1 = cc in omega arith)
      may go true t k = word (no-joint b ((and-eq-true_iff (is_joint b) (eqb joint 0 || eqb joint b)).0 t).0) (joining go (member bs) refl k)

      closing : ((x : Bool) (other : List ℕ) → behind member n b (joined_by b v x) other ≡ read w rest → Units other) → (t : Bool) → eqb b closes ≡ t → at n joint v b bs t ≡ read w rest → Units (b ∷ bs)
      closing go true t k =
          let same : bs ≡ rest = cc in
          word (no_sign b 8 (eqb-true b 8 t) refl) (subst Units (sym same) u)
      closing go false t k = may go (may_join joint b) refl k

  fine-group : Fine (group_at member)
  fine-group bs v rest e u = first (member bs) refl e
    where
      first : (r : Read) → member bs ≡ r → elim r [ bad other ↦ bad other | read w other ↦ behind member (length bs) 0 w other ] ≡ read v rest → Units bs
      first (bad other) m k = absurd (let z : ◌≡◌ {A = ℕ} 0 1 = cc in omega arith)
      first (read w other) m k = fine bs w other m (fine-behind (length bs) 0 w other v rest k u)

module _ (threads : ℕ) (few : threads ≤ 10) (register : ℕ → ℕ → ℕ) where
  abbrev whole : List ℕ → Bool
  whole bs = leb comparison_bytes (length bs) && is_sign (next_byte bs) && ltb (get_or bs 1 0) threads && is_register (get_or bs 2 0)

  abbrev compares : List ℕ → Bool → Read
  compares bs t = cond t (read (compared (next_byte bs) (register (get_or bs 1 0) (get_or bs 2 0)) (u64_at bs 3)) (drop comparison_bytes bs)) (bad bs)

  compares-next : (bs : List ℕ) → comparison_at threads register bs ≡ compares bs (whole bs)
  unfolding comparison_at
  compares-next bs = refl

  fine-comparison : Fine (comparison_at threads register)
  fine-comparison [] v rest e u = none
  fine-comparison (b ∷ bs) v rest e u = tried (whole (b ∷ bs)) refl (sym (compares-next (b ∷ bs)) ∙ e)
    where
      tried : (t : Bool) → whole (b ∷ bs) ≡ t → compares (b ∷ bs) t ≡ read v rest → Units (b ∷ bs)
      tried false t k = absurd (let z : ◌≡◌ {A = ℕ} 0 1 = cc in omega arith)
      tried true t k =
          let three = (and-eq-true_iff (leb comparison_bytes (suc (length bs)) && is_sign b && ltb (get_or bs 0 0) threads) (is_register (get_or bs 1 0))).0 t in
          let two = (and-eq-true_iff (leb comparison_bytes (suc (length bs)) && is_sign b) (ltb (get_or bs 0 0) threads)).0 three.0 in
          let one = (and-eq-true_iff (leb comparison_bytes (suc (length bs))) (is_sign b)).0 two.0 in
          let same : drop 10 bs ≡ rest = cc in
          comparison {b = b} {bs = bs} one.1 (omega (arith, leb-true 11 (suc (length bs)) one.0)) (omega (arith, ltb-true (get_or bs 0 0) threads two.1)) (omega (arith, ltb-true (get_or bs 1 0) 4 three.1)) (subst Units (sym same) u)

  condition-next : (deep b : ℕ) (bs : List ℕ) → condition_at threads register (suc deep) (b ∷ bs) ≡ cond (eqb b opens) (group_at (condition_at threads register deep) bs) (comparison_at threads register (b ∷ bs))
  unfolding condition_at
  condition-next deep b bs = refl

  condition-zero : (bs : List ℕ) → condition_at threads register zero bs ≡ comparison_at threads register bs
  unfolding condition_at
  condition-zero bs = refl

  pub fine-condition : (deep : ℕ) → Fine (condition_at threads register deep)
  fine-condition zero bs v rest e u = fine-comparison bs v rest (sym (condition-zero bs) ∙ e) u
  fine-condition (suc deep) [] v rest e u = none
  fine-condition (suc deep) (b ∷ bs) v rest e u = opening (fine-condition deep) (eqb b opens) refl (sym (condition-next deep b bs) ∙ e)
    where
      opening : Fine (condition_at threads register deep) → (t : Bool) → eqb b opens ≡ t → cond t (group_at (condition_at threads register deep) bs) (comparison_at threads register (b ∷ bs)) ≡ read v rest → Units (b ∷ bs)
      opening go true t k = word (no_sign b 7 (eqb-true b 7 t) refl) (fine-group (condition_at threads register deep) go bs v rest k u)
      opening go false t k = fine-comparison (b ∷ bs) v rest k u

pub fine-claim : (threads : ℕ) → threads ≤ 10 → (bs : List ℕ) → is_condition threads bs ≡ true → Units bs × (length bs ≤ condition_bytes)
unfolding is_condition
fine-claim threads few bs e =
    let two = (and-eq-true_iff (leb (length bs) condition_bytes) (ends (claim_at threads (λ t r. 0) bs))).0 e in
    (all bs two.1, leb-true (length bs) condition_bytes two.0)
  where
    done : (rest : List ℕ) → eqb (length rest) 0 ≡ true → Units rest
    done [] e = none
    done (b ∷ bs) e = absurd (omega (arith, eqb-true (suc (length bs)) 0 e))

    ended : (bs : List ℕ) (r : Read) → condition_at threads (λ t r. 0) groups_deep bs ≡ r → ends r ≡ true → Units bs
    ended bs (bad rest) m k = absurd (true≢false (sym k))
    ended bs (read v rest) m k = fine-condition threads few (λ t r. 0) groups_deep bs v rest m (done rest k)

    all : (bs : List ℕ) → ends (claim_at threads (λ t r. 0) bs) ≡ true → Units bs
    all [] k = none
    all (b ∷ bs) k = ended (b ∷ bs) (condition_at threads (λ t r. 0) groups_deep (b ∷ bs)) refl k
