-- A condition's bytes as units, as they are written and read back. Assumes nothing.
--     Units, tree-units         a tree's bytes are units
--     content-on, content-end   where the next token stands
--     sign-unit, compare-unit   one unit is read back
--     claimed-back              all of them
use Prim.Native.Nat.{ℕ, zero, suc, ◌+◌, ◌-◌, ◌*◌, ◌/◌, ◌%◌, ◌^◌, ◌≤◌, ◌<◌}
use mathlib.Core.List.{List, [], ◌∷◌, ◌++◌, append_assoc, append-nil}
use mathlib.Core.Bool.{Bool, true, false, cond, not, ◌||◌, or-true}
use mathlib.Core.Path.{◌≡◌, refl, ap, sym, subst, ◌∙◌}
use native.Mathlib.Omega.{arith}
use native.Mathlib.Decide.{ℕ_discrete}
use lib.Dec.{leb, eqb}
use lib.ListN.{length, get_or, length-append}
use borrow.Author.Tests.{leb-true, le-leb, lt-leb}
use Rattle.rules.specs.Vector.{equal}
use Rattle.rules.specs.Event.{little}
use Rattle.rules.specs.Table.{u16_at, u32_at, u64_at}
use Rattle.rules.specs.Condition.{is_sign, opens, closes, condition_bytes}
use Rattle.rules.specs.ConditionTree as Tree
use Rattle.rules.specs.ConditionTree.{Comparison, Joint, Deep, comparison, group, leaf_bytes, joint_of, others_of, FineAll, Fine}
use Rattle.rules.specs.Token.{bytes_of, space, line_feed, is_letter, is_between, run_length, line_length, ends_line, is_empty, past_blanks, token, past_token, content, nothing, found, only, number_in, place_in}
use Rattle.rules.specs.Text as Text
use Rattle.rules.specs.Text.{symbols, symbol_in, thread_register_in, unit, unit_at, claimed, claimed_to}
use Rattle.rules.specs.Writer.{shown, blank_before, units_shown}
use Rattle.rules.proofs.MeasureRows.{both_left, both_right}
use Rattle.returns.proofs.TokenLaws.{also, all, in_word, Stands, letters, symbols as signed, other, stands-skip, stands_on, stands-some, stands-long, stands-token, stands-past}
use Rattle.returns.proofs.NumberLaws.{number-back, shown-letters, shown-some, digit-letter}

-- Units

pub data Units : List ℕ → Type 0 where
  none : Units []
  compares : (s th re n : ℕ) (rest : List ℕ) → is_sign s ≡ true → th < 5 → re < 4 → n < 2 ^ 64 → Units rest → Units (s ∷ th ∷ re ∷ (little 8 n ++ rest))
  sign : (b : ℕ) (rest : List ℕ) → 7 ≤ b → b ≤ 10 → Units rest → Units (b ∷ rest)

module _ (threads : ℕ) (few : threads ≤ 5) where
  comparison-units : (c : Comparison) (rest : List ℕ) → Tree.FineComparison threads c → Units rest → Units (leaf_bytes c ++ rest)
  comparison-units c rest h u = compares c.sign c.thread c.register c.number rest h.0 (omega (arith, h.1)) h.2 h.3 u

  joint-sign : (j : Joint) → (7 ≤ joint_of j) × (joint_of j ≤ 10)
  joint-sign Tree.all = omega arith
  joint-sign Tree.some = omega arith

  others-units : {M : Type 0} (P : M → Type 0) (f : M → List ℕ) → ((m : M) (rest : List ℕ) → P m → Units rest → Units (f m ++ rest)) →
      (j : Joint) (ms : List M) (rest : List ℕ) → FineAll P ms → Units rest → Units (others_of f j ms ++ rest)
  others-units P f one j [] rest h u = sign closes rest (omega arith) (omega arith) u
  others-units P f one j (m ∷ ms) rest h u =
      let k = joint-sign j in
      subst (λ (l : List ℕ). Units (joint_of j ∷ l)) (sym (append_assoc (f m) (others_of f j ms) rest))
      (sign (joint_of j) (f m ++ (others_of f j ms ++ rest)) k.0 k.1 (one m (others_of f j ms ++ rest) h.0 (others-units P f one j ms rest h.1 u)))

  pub tree-units : (d : ℕ) (c : Deep d) (rest : List ℕ) → Fine threads d c → Units rest → Units (Tree.tree_bytes d c ++ rest)
  unfolding Tree.tree_bytes
  tree-units zero c rest h u = comparison-units c rest h u
  tree-units (suc d) (comparison c) rest h u = comparison-units c rest h u
  tree-units (suc d) (group g) rest h u =
      let tail = others_of (Tree.tree_bytes d) g.joint g.others in
      subst (λ (l : List ℕ). Units (opens ∷ l)) (sym (append_assoc (Tree.tree_bytes d g.first) tail rest))
      (sign opens (Tree.tree_bytes d g.first ++ (tail ++ rest)) (omega arith) (omega arith)
      (tree-units d g.first (tail ++ rest) h.0
      (others-units (Fine threads d) (Tree.tree_bytes d) (λ m more k v. tree-units d m more k v) g.joint g.others rest h.1 u)))

-- Where the next token stands

content-on : (n : ℕ) (bs : List ℕ) → ends_line (past_blanks bs) ≡ false → content n bs ≡ past_blanks bs
unfolding content
content-on zero bs e = refl
content-on (suc n) bs e =
    let f : (is_empty (past_blanks bs) || not (ends_line (past_blanks bs))) ≡ true = rw (e, or-true) refl in
    rw (content, f) refl

content-word : (n : ℕ) (w rest : List ℕ) → Stands w rest → content n (space ∷ (w ++ rest)) ≡ w ++ rest
unfolding run_length
content-word n w rest s = content-on n (space ∷ (w ++ rest)) (ap ends_line (stands-skip s) ∙ stands_on s) ∙ stands-skip s

content-none : (n : ℕ) → content n [] ≡ []
unfolding content run_length
content-none zero = refl
content-none (suc n) = refl

content-end : (n : ℕ) → content (suc n) (line_feed ∷ []) ≡ []
unfolding content run_length ends_line line_length
content-end n = content-none n

-- One unit

-- a blank before a word, or none
blank_skip : (opened : Bool) (b : ℕ) (bs : List ℕ) → past_blanks (blank_before opened b ++ bs) ≡ past_blanks bs
unfolding run_length
blank_skip opened b bs = by (opened || eqb b closes)
  where
    by : (x : Bool) → past_blanks (cond x [] (space ∷ []) ++ bs) ≡ past_blanks bs
    by true = refl
    by false = refl

blank-content : (n : ℕ) (opened : Bool) (b : ℕ) (w rest : List ℕ) → Stands w rest → content n (blank_before opened b ++ (w ++ rest)) ≡ w ++ rest
blank-content n opened b w rest s =
    let e = blank_skip opened b (w ++ rest) ∙ stands-skip s in
    content-on n (blank_before opened b ++ (w ++ rest)) (ap ends_line e ∙ stands_on s) ∙ e

-- ( and ) and or
sign-cases : (P : ℕ → Type 0) (b : ℕ) → 7 ≤ b → b ≤ 10 → P 7 → P 8 → P 9 → P 10 → P b
sign-cases P b h l x y z w =
    elim (ℕ_discrete b 7) [
      | yes e ↦ rw e x
      | no d ↦ elim (ℕ_discrete b 8) [
        | yes e ↦ rw e y
        | no f ↦ elim (ℕ_discrete b 9) [ yes e ↦ rw e z | no g ↦ let e : b ≡ 10 = omega arith in rw e w ]
      ]
    ]

-- the signs of comparisons
compare-cases : (P : ℕ → Type 0) (b : ℕ) → is_sign b ≡ true → P 1 → P 2 → P 3 → P 4 → P 5 → P 6 → P b
compare-cases P b h p1 p2 p3 p4 p5 p6 =
    let lo = leb-true 1 b (both_left (leb 1 b) (leb b 6) h) in
    let hi = leb-true b 6 (both_right (leb 1 b) (leb b 6) h) in
    elim (ℕ_discrete b 1) [
      | yes e ↦ rw e p1
      | no d1 ↦ elim (ℕ_discrete b 2) [
        | yes e ↦ rw e p2
        | no d2 ↦ elim (ℕ_discrete b 3) [
          | yes e ↦ rw e p3
          | no d3 ↦ elim (ℕ_discrete b 4) [
            | yes e ↦ rw e p4
            | no d4 ↦ elim (ℕ_discrete b 5) [ yes e ↦ rw e p5 | no d5 ↦ let e : b ≡ 6 = omega arith in rw e p6 ]
          ]
        ]
      ]
    ]

sign-none : (b : ℕ) → 7 ≤ b → b ≤ 10 → is_sign b ≡ false
sign-none b h l = sign-cases (λ (x : ℕ). is_sign x ≡ false) b h l refl refl refl refl

-- behind a word that is no bracket comes no letter
pub parted-units : (us : List ℕ) → Units us → (k : ℕ) (rest : List ℕ) → is_letter (get_or (units_shown k false us ++ (line_feed ∷ rest)) 0 0) ≡ false
unfolding units_shown bytes_of
parted-units us u zero rest = refl
parted-units us none (suc k) rest = refl
parted-units us (compares s th re n more e h l m u) (suc k) rest =
    compare-cases (λ (x : ℕ). is_letter (get_or (units_shown (suc k) false (x ∷ th ∷ re ∷ (little 8 n ++ more)) ++ (line_feed ∷ rest)) 0 0) ≡ false) s e refl refl refl refl refl refl
parted-units us (sign b more h l u) (suc k) rest =
    sign-cases (λ (x : ℕ). is_letter (get_or (units_shown (suc k) false (x ∷ more) ++ (line_feed ∷ rest)) 0 0) ≡ false) b h l refl refl refl refl

-- a bracket stands by itself
sign-stands : (b : ℕ) → 7 ≤ b → b ≤ 10 → (rest : List ℕ) → (eqb b opens ≡ false → is_letter (get_or rest 0 0) ≡ false) → Stands (get_or symbols (b - 1) []) rest
unfolding bytes_of in_word
sign-stands b h l rest =
    sign-cases (λ (x : ℕ). (eqb x opens ≡ false → is_letter (get_or rest 0 0) ≡ false) → Stands (get_or symbols (x - 1) []) rest) b h l
    (λ e. other 40 rest refl refl refl) (λ e. other 41 rest refl refl refl) (λ e. letters _ _ rest refl (e refl)) (λ e. letters _ _ rest refl (e refl))

sign-in : (b : ℕ) → 7 ≤ b → b ≤ 10 → (thread_register_in (get_or symbols (b - 1) []) ≡ nothing) × (only (λ (x : ℕ). not (is_sign x)) (symbol_in (get_or symbols (b - 1) [])) ≡ found b)
unfolding thread_register_in bytes_of place_in equal
sign-in b h l =
    sign-cases (λ (x : ℕ). (thread_register_in (get_or symbols (x - 1) []) ≡ nothing) × (only (λ (y : ℕ). not (is_sign y)) (symbol_in (get_or symbols (x - 1) [])) ≡ found x)) b h l
    (refl, refl) (refl, refl) (refl, refl) (refl, refl)

compare-stands : (s : ℕ) → is_sign s ≡ true → (rest : List ℕ) → Stands (get_or symbols (s - 1) []) (space ∷ rest)
unfolding bytes_of
compare-stands s h rest =
    compare-cases (λ (x : ℕ). Stands (get_or symbols (x - 1) []) (space ∷ rest)) s h
    (signed _ _ (space ∷ rest) refl refl) (signed _ _ (space ∷ rest) refl refl) (signed _ _ (space ∷ rest) refl refl) (signed _ _ (space ∷ rest) refl refl) (signed _ _ (space ∷ rest) refl refl) (signed _ _ (space ∷ rest) refl refl)

compare-in : (s : ℕ) → is_sign s ≡ true → only is_sign (symbol_in (get_or symbols (s - 1) [])) ≡ found s
unfolding bytes_of place_in equal
compare-in s h = compare-cases (λ (x : ℕ). only is_sign (symbol_in (get_or symbols (x - 1) [])) ≡ found x) s h refl refl refl refl refl refl

-- `THREAD.rREGISTER`
abbrev named : ℕ → ℕ → List ℕ
named th re = (48 + th) ∷ 46 ∷ 114 ∷ (48 + re) ∷ []

between-so : (most d : ℕ) → 48 + d ≤ most → is_between 48 most (48 + d) ≡ true
between-so most d h = also (le-leb 48 (48 + d) (omega arith)) (le-leb (48 + d) most h)

named-stands : (th re : ℕ) → th < 5 → re < 4 → (rest : List ℕ) → Stands (named th re) (space ∷ rest)
named-stands th re h l rest =
    letters _ _ (space ∷ rest)
    (also (digit-letter (48 + th) (between-so 57 th (omega arith))) (also (digit-letter (48 + re) (between-so 57 re (omega arith))) refl)) refl

named_in : (th re : ℕ) → th < 5 → re < 4 → thread_register_in (named th re) ≡ found (4 * th + re)
unfolding thread_register_in
named_in th re h l =
    let e : 4 * (48 + th - 48) + (48 + re - 48) ≡ 4 * th + re = omega arith in
    rw (between-so 52 th (omega arith), between-so 51 re (omega arith)) (ap found e)

module _ (lines : ℕ) where
  sign-unit : (b : ℕ) → 7 ≤ b → b ≤ 10 → (rest : List ℕ) → Stands (get_or symbols (b - 1) []) rest → unit_at lines (get_or symbols (b - 1) [] ++ rest) ≡ unit (b ∷ []) rest
  unfolding unit_at
  sign-unit b h l rest s =
      let k = sign-in b h l in
      let e : thread_register_in (token (get_or symbols (b - 1) [] ++ rest)) ≡ nothing = ap thread_register_in (stands-token s) ∙ k.0 in
      let f : only (λ (x : ℕ). not (is_sign x)) (symbol_in (token (get_or symbols (b - 1) [] ++ rest))) ≡ found b = ap (λ (w : List ℕ). only (λ (x : ℕ). not (is_sign x)) (symbol_in w)) (stands-token s) ∙ k.1 in
      rw (unit_at, e, f) (ap (λ (r : List ℕ). unit (b ∷ []) r) (stands-past s))

  number-unit : (at s n : ℕ) (rest : List ℕ) → n < 2 ^ 64 → Stands (shown n) rest → Text.number_behind lines at s (space ∷ (shown n ++ rest)) ≡ unit (Text.comparison_of s at n) rest
  number-unit at s n rest l st =
      let c = content-word lines (shown n) rest st in
      let e : number_in (token (content lines (space ∷ (shown n ++ rest)))) ≡ found n = ap (λ (w : List ℕ). number_in (token w)) c ∙ ap number_in (stands-token st) ∙ number-back n l in
      rw (Text.number_behind, e) (ap (λ (r : List ℕ). unit (Text.comparison_of s at n) r) (ap past_token c ∙ stands-past st))

  sign-behind : (at s n : ℕ) (rest : List ℕ) → is_sign s ≡ true → n < 2 ^ 64 → Stands (shown n) rest →
      Text.sign_behind lines at (space ∷ (get_or symbols (s - 1) [] ++ (space ∷ (shown n ++ rest)))) ≡ unit (Text.comparison_of s at n) rest
  sign-behind at s n rest h l st =
      let more = space ∷ (shown n ++ rest) in
      let w = get_or symbols (s - 1) [] in
      let su = compare-stands s h (shown n ++ rest) in
      let c = content-word lines w more su in
      let e : only is_sign (symbol_in (token (content lines (space ∷ (w ++ more))))) ≡ found s = ap (λ (x : List ℕ). only is_sign (symbol_in (token x))) c ∙ ap (λ (x : List ℕ). only is_sign (symbol_in x)) (stands-token su) ∙ compare-in s h in
      rw (Text.sign_behind, e) (ap (λ (x : List ℕ). Text.number_behind lines at s x) (ap past_token c ∙ stands-past su) ∙ number-unit at s n rest l st)

  compare-unit : (s th re n : ℕ) (rest : List ℕ) → is_sign s ≡ true → th < 5 → re < 4 → n < 2 ^ 64 → Stands (shown n) rest →
      unit_at lines (named th re ++ (space ∷ (get_or symbols (s - 1) [] ++ (space ∷ (shown n ++ rest))))) ≡ unit (s ∷ th ∷ re ∷ little 8 n) rest
  unfolding unit_at
  compare-unit s th re n rest h a b l st =
      let more = space ∷ (get_or symbols (s - 1) [] ++ (space ∷ (shown n ++ rest))) in
      let su = named-stands th re a b (get_or symbols (s - 1) [] ++ (space ∷ (shown n ++ rest))) in
      let e : thread_register_in (token (named th re ++ more)) ≡ found (4 * th + re) = ap thread_register_in (stands-token su) ∙ named_in th re a b in
      let q : (4 * th + re) / 4 ≡ th = omega arith in
      let r : (4 * th + re) % 4 ≡ re = omega arith in
      rw (unit_at, e)
      (ap (λ (x : List ℕ). Text.sign_behind lines (4 * th + re) x) (stands-past su)
      ∙ sign-behind (4 * th + re) s n rest h l st
      ∙ λ i. unit (s ∷ q i ∷ r i ∷ little 8 n) rest)

  -- All units

  -- one unit is taken over, while there is room
  claimed-on : (n : ℕ) (made bs bytes rest : List ℕ) → length made + length bytes ≤ condition_bytes → is_empty (content lines bs) ≡ false →
      unit_at lines (content lines bs) ≡ unit bytes rest → claimed lines (suc n) (condition_bytes + 1) made bs ≡ claimed lines n (condition_bytes + 1) (made ++ bytes) rest
  unfolding claimed
  claimed-on n made bs bytes rest l e f =
      let g : (leb (condition_bytes + 1) (length made) || is_empty (content lines bs)) ≡ false = rw (lt-leb (condition_bytes + 1) (length made) (omega arith), e) refl in
      rw (claimed, g, f, le-leb (length made + length bytes) condition_bytes l) refl

-- as they are written
units-none : (k : ℕ) (opened : Bool) → units_shown k opened [] ≡ []
unfolding units_shown
units-none zero opened = refl
units-none (suc k) opened = refl

units-sign : (k : ℕ) (opened : Bool) (b : ℕ) (rest : List ℕ) → is_sign b ≡ false →
    units_shown (suc k) opened (b ∷ rest) ≡ blank_before opened b ++ (get_or symbols (b - 1) [] ++ units_shown k (eqb b opens) rest)
unfolding units_shown
units-sign k opened b rest e = rw (units_shown, e) refl

number-there : (th re n : ℕ) (rest : List ℕ) → n < 2 ^ 64 → u64_at (th ∷ re ∷ (little 8 n ++ rest)) 2 ≡ n
unfolding u64_at u32_at u16_at little
number-there th re n rest h = omega arith

units-compare : (k : ℕ) (opened : Bool) (s th re n : ℕ) (rest : List ℕ) → is_sign s ≡ true → n < 2 ^ 64 →
    units_shown (suc k) opened (s ∷ th ∷ re ∷ (little 8 n ++ rest))
    ≡ blank_before opened s ++ (named th re ++ (space ∷ (get_or symbols (s - 1) [] ++ (space ∷ (shown n ++ units_shown k false rest)))))
unfolding units_shown little
units-compare k opened s th re n rest e h =
    rw (units_shown, e)
    (ap (λ (x : ℕ). blank_before opened s ++ (named th re ++ (space ∷ (get_or symbols (s - 1) [] ++ (space ∷ (shown x ++ units_shown k false rest)))))) (number-there th re n rest h))

letters-stand : (w rest : List ℕ) → 1 ≤ length w → all is_letter w ≡ true → is_letter (get_or rest 0 0) ≡ false → Stands w rest
letters-stand [] rest l h e = absurd (omega arith)
letters-stand (b ∷ w) rest l h e = letters b w rest h e

module _ (l : ℕ) where
  claimed-end : (n : ℕ) (made : List ℕ) → claimed (suc l) (suc n) (condition_bytes + 1) made (line_feed ∷ []) ≡ claimed_to (suc l) made [] true
  unfolding claimed
  claimed-end n made =
      let c = content-end l in
      let g : (leb (condition_bytes + 1) (length made) || is_empty (content (suc l) (line_feed ∷ []))) ≡ true = rw (c, or-true) refl in
      rw (claimed, g) (λ i. claimed_to (suc l) made (c i) (is_empty (c i)))

  pub claimed-back : (us : List ℕ) → Units us → (opened : Bool) (k n : ℕ) (made : List ℕ) → length us ≤ k → length (units_shown k opened us ++ (line_feed ∷ [])) ≤ n →
      length made + length us ≤ condition_bytes → claimed (suc l) n (condition_bytes + 1) made (units_shown k opened us ++ (line_feed ∷ [])) ≡ claimed_to (suc l) (made ++ us) [] true
  unfolding little
  claimed-back us none opened k zero made h i j = absurd (omega (arith, length-append (units_shown k opened []) (line_feed ∷ [])))
  claimed-back us none opened k (suc n) made h i j =
      ap (λ (x : List ℕ). claimed (suc l) (suc n) (condition_bytes + 1) made (x ++ (line_feed ∷ []))) (units-none k opened)
      ∙ claimed-end n made ∙ ap (λ (x : List ℕ). claimed_to (suc l) x [] true) (sym (append-nil made))
  claimed-back us (sign b rest lo hi u) opened zero n made h i j = absurd (omega arith)
  claimed-back us (sign b rest lo hi u) opened (suc k) zero made h i j =
      absurd (omega (arith, length-append (units_shown (suc k) opened (b ∷ rest)) (line_feed ∷ [])))
  claimed-back us (sign b rest lo hi u) opened (suc k) (suc n) made h i j =
      let w = get_or symbols (b - 1) [] in
      let more = units_shown k (eqb b opens) rest ++ (line_feed ∷ []) in
      let a : units_shown (suc k) opened (b ∷ rest) ++ (line_feed ∷ []) ≡ blank_before opened b ++ (w ++ more) =
      rw (units-sign k opened b rest (sign-none b lo hi)) (simp append_assoc) in
      let s = sign-stands b lo hi more (λ e. rw e (parted-units rest u k [])) in
      let c = blank-content (suc l) opened b w more s in
      ap (claimed (suc l) (suc n) (condition_bytes + 1) made) a
      ∙ claimed-on (suc l) n made (blank_before opened b ++ (w ++ more)) (b ∷ []) more (omega arith) (ap is_empty c ∙ stands-some s) (ap (unit_at (suc l)) c ∙ sign-unit (suc l) b lo hi more s)
      ∙ claimed-back rest u (eqb b opens) k n (made ++ (b ∷ [])) (omega arith)
      (let long = stands-long s in omega (arith, ap length a, length-append (blank_before opened b) (w ++ more), length-append w more)) (omega (arith, length-append made (b ∷ [])))
      ∙ ap (λ (x : List ℕ). claimed_to (suc l) x [] true) (append_assoc made (b ∷ []) rest)
  claimed-back us (compares s th re v rest e x y z u) opened zero n made h i j = absurd (omega arith)
  claimed-back us (compares s th re v rest e x y z u) opened (suc k) zero made h i j =
      absurd (omega (arith, length-append (units_shown (suc k) opened (s ∷ th ∷ re ∷ (little 8 v ++ rest))) (line_feed ∷ [])))
  claimed-back us (compares s th re v rest e x y z u) opened (suc k) (suc n) made h i j =
      let w = get_or symbols (s - 1) [] in
      let more = units_shown k false rest ++ (line_feed ∷ []) in
      let told = named th re ++ (space ∷ (w ++ (space ∷ (shown v ++ more)))) in
      let a : units_shown (suc k) opened (s ∷ th ∷ re ∷ (little 8 v ++ rest)) ++ (line_feed ∷ []) ≡ blank_before opened s ++ told =
      rw (units-compare k opened s th re v rest e z) (simp append_assoc) in
      let st = named-stands th re x y (w ++ (space ∷ (shown v ++ more))) in
      let c = blank-content (suc l) opened s (named th re) (space ∷ (w ++ (space ∷ (shown v ++ more)))) st in
      let sn = letters-stand (shown v) more (shown-some v) (shown-letters v) (parted-units rest u k []) in
      ap (claimed (suc l) (suc n) (condition_bytes + 1) made) a
      ∙ claimed-on (suc l) n made (blank_before opened s ++ told) (s ∷ th ∷ re ∷ little 8 v) more (omega arith) (ap is_empty c ∙ stands-some st) (ap (unit_at (suc l)) c ∙ compare-unit (suc l) s th re v more e x y z sn)
      ∙ claimed-back rest u false k n (made ++ (s ∷ th ∷ re ∷ little 8 v)) (omega arith)
      (omega (arith, ap length a, length-append (blank_before opened s) told, length-append w (space ∷ (shown v ++ more)), length-append (shown v) more)) (omega (arith, length-append made (s ∷ th ∷ re ∷ little 8 v)))
      ∙ ap (λ (q : List ℕ). claimed_to (suc l) q [] true) (append_assoc made (s ∷ th ∷ re ∷ little 8 v) rest)
