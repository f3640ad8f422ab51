-- A row's bytes. Assumes nothing.
--     row-all        a row's bytes, from its fields
use Prim.Native.Nat.{ℕ, zero, suc, ◌+◌, ◌%◌, ◌≤◌}
use mathlib.Core.List.{List, [], ◌∷◌}
use mathlib.Core.Path.{◌≡◌, refl}
use native.Mathlib.Omega.{arith}
use lib.ListN.{length, get_or, take, drop}
use lib.Seq.{drop-cons}
use Rattle.rules.specs.Event.{little}
use Rattle.rules.specs.Form.{fields_as_bytes}

-- elements one by one, from the k-th on
abbrev elements : ℕ → ℕ → List ℕ → List ℕ
elements zero k xs = []
elements (suc n) k xs = get_or xs k 0 ∷ elements n (suc k) xs

elements-all : (n k : ℕ) (xs : List ℕ) → k + n ≤ length xs → elements n k xs ≡ take n (drop k xs)
elements-all zero k xs h = refl
elements-all (suc n) k xs h = rw (drop-cons xs k 0 (omega arith), elements-all n (suc k) xs (omega arith))

pub row-all : (fields : List ℕ) → length fields ≡ 9 → (target a b : List ℕ) → target ≡ little 8 (get_or fields 6 0) → a ≡ little 8 (get_or fields 7 0) → b ≡ little 8 (get_or fields 8 0)
    → get_or fields 0 0 % 256 ∷ get_or fields 1 0 % 256 ∷ get_or fields 2 0 % 256 ∷ get_or fields 3 0 % 256 ∷ get_or fields 4 0 % 256 ∷ get_or fields 5 0 % 256
    ∷ get_or target 0 0 ∷ get_or target 1 0
    ∷ get_or a 0 0 ∷ get_or a 1 0 ∷ get_or a 2 0 ∷ get_or a 3 0 ∷ get_or a 4 0 ∷ get_or a 5 0 ∷ get_or a 6 0 ∷ get_or a 7 0
    ∷ get_or b 0 0 ∷ get_or b 1 0 ∷ get_or b 2 0 ∷ get_or b 3 0 ∷ get_or b 4 0 ∷ get_or b 5 0 ∷ get_or b 6 0 ∷ get_or b 7 0 ∷ []
    ≡ fields_as_bytes fields
unfolding fields_as_bytes little
row-all fields n target a b t x y = rw (t, x, y, ← elements-all 6 0 fields (omega arith))
