-- The turning points, from the history alone: where each execution parts from the one before.
use Prim.Native.Nat.{ℕ, zero, suc, ◌<◌}
use mathlib.Core.List.{List, [], ◌∷◌, map}
use mathlib.Core.Bool.{Bool, true, false, cond}
use mathlib.Core.Path.{◌≡◌, refl, ap, sym, ◌∙◌}
use mathlib.Core.Logic.{◌≢◌}
use native.Mathlib.Omega.{arith}
use lib.ListN.{length, take, get_or}
use borrow.Author.Tests.{eqb-true, eq-eqb}
use Rattle.rules.specs.Vector.{Whom, nobody, thread}
use Rattle.rules.specs.Path.{Choice, runs, reads}
use Rattle.ledger.specs.History.{Course, executed}
use Rattle.ledger.specs.Tree.{no_choice}
use Rattle.ledger.specs.Turning.{same_whom, same_bit, same_choice, parting, partings, turning_point, choices_of, others, Turns, Each}

-- The test of choices

whom-same : (w : Whom) → same_whom w w ≡ true
whom-same nobody = refl
whom-same (thread t) = eq-eqb t t refl

bit-same : (b : Bool) → same_bit b b ≡ true
bit-same true = refl
bit-same false = refl

choice-same : (c : Choice) → same_choice c c ≡ true
choice-same (runs w) = whom-same w
choice-same (reads v) = eq-eqb v v refl
choice-same (Choice.says b) = bit-same b

same-whom : (w v : Whom) → same_whom w v ≡ true → w ≡ v
same-whom nobody nobody e = refl
same-whom nobody (thread t) e = let z : ◌≡◌ {A = ℕ} 0 1 = cc in absurd (omega arith)
same-whom (thread t) nobody e = let z : ◌≡◌ {A = ℕ} 0 1 = cc in absurd (omega arith)
same-whom (thread t) (thread u) e = ap thread (eqb-true t u e)

same-bit : (a b : Bool) → same_bit a b ≡ true → a ≡ b
same-bit true true e = refl
same-bit true false e = sym e
same-bit false true e = e
same-bit false false e = refl

pub same-choice : (c d : Choice) → same_choice c d ≡ true → c ≡ d
same-choice (runs w) (runs v) e = ap runs (same-whom w v e)
same-choice (runs w) (reads v) e = let z : ◌≡◌ {A = ℕ} 0 1 = cc in absurd (omega arith)
same-choice (runs w) (Choice.says b) e = let z : ◌≡◌ {A = ℕ} 0 1 = cc in absurd (omega arith)
same-choice (reads v) (runs w) e = let z : ◌≡◌ {A = ℕ} 0 1 = cc in absurd (omega arith)
same-choice (reads v) (reads u) e = ap reads (eqb-true v u e)
same-choice (reads v) (Choice.says b) e = let z : ◌≡◌ {A = ℕ} 0 1 = cc in absurd (omega arith)
same-choice (Choice.says a) (runs w) e = let z : ◌≡◌ {A = ℕ} 0 1 = cc in absurd (omega arith)
same-choice (Choice.says a) (reads v) e = let z : ◌≡◌ {A = ℕ} 0 1 = cc in absurd (omega arith)
same-choice (Choice.says a) (Choice.says b) e = ap Choice.says (same-bit a b e)

-- Where two lists of choices part

-- equal before a place that both reach, and different there
parting-at : (k : ℕ) (xs ys : List Choice) → k < length xs → k < length ys → take k xs ≡ take k ys →
    get_or xs k no_choice ≢ get_or ys k no_choice →
    parting xs ys ≡ take (suc k) ys
unfolding parting
parting-at k [] ys h i e n = absurd (omega arith)
parting-at k (x ∷ xs) [] h i e n = absurd (omega arith)
parting-at zero (x ∷ xs) (y ∷ ys) h i e n = go (same_choice x y) refl
  where
    go : (b : Bool) → same_choice x y ≡ b → cond b (y ∷ parting xs ys) (y ∷ []) ≡ y ∷ []
    go true f = absurd (n (same-choice x y f))
    go false f = refl
parting-at (suc k) (x ∷ xs) (y ∷ ys) h i e n =
    let f : x ≡ y = cc in
    let g : take k xs ≡ take k ys = cc in
    let s : same_choice x y ≡ true = rw f (choice-same y) in
    rw s (ap (λ (l : List Choice). y ∷ l) (parting-at k xs ys (omega arith) (omega arith) g n))

-- a prefix has the same at every place
take-prefix : (k : ℕ) (ys p : List Choice) → take (suc k) ys ≡ p → length p ≡ suc k →
    (k < length ys) × (take k ys ≡ take k p) × (get_or ys k no_choice ≡ get_or p k no_choice)
take-prefix k [] p e l = let z : 0 ≡ suc k = ap length e ∙ l in absurd (omega arith)
take-prefix zero (y ∷ ys) p e l = (omega arith, refl, ap (λ (q : List Choice). get_or q 0 no_choice) e)
take-prefix (suc k) (y ∷ ys) [] e l = absurd (omega arith)
take-prefix (suc k) (y ∷ ys) (c ∷ p) e l =
    let f : y ≡ c = cc in
    let g : take (suc k) ys ≡ p = cc in
    let r = take-prefix k ys p g (omega arith) in
    let i : take k ys ≡ take k p = r.1 in
    (omega (arith, r.0), cc, r.2)

turn-parts : {S : Type 0} (c d : Course S) → Turns c d → turning_point d ≡ parting (choices_of c) (choices_of d)
turn-parts c d t =
    let r = take-prefix t.place (choices_of d) (turning_point d) t.through t.point in
    sym (parting-at t.place (choices_of c) (choices_of d) t.reached r.0 (t.before ∙ sym r.1) (λ e. t.new (e ∙ r.2)) ∙ t.through)

pub turns-part : {S : Type 0} (cs : List (Course S)) → Each Turns cs → map turning_point (others cs) ≡ partings (map executed cs)
unfolding partings
turns-part [] t = refl
turns-part (c ∷ []) t = refl
turns-part (c ∷ d ∷ cs) t = let e = turn-parts c d t.0 in let f = turns-part (d ∷ cs) t.1 in cc
