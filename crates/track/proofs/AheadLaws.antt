-- That no thread is ahead where all parts of one vector are at most those of the other. Assumes nothing.
--     none-ahead
use Prim.Native.Nat.{ℕ}
use mathlib.Core.Bool.{true, true≢false}
use mathlib.Core.List.{List, [], ◌∷◌}
use mathlib.Core.Path.{◌≡◌, refl, sym}
use lib.Dec.{leb}
use borrow.Author.Tests.{le-ltb, leb-true}
use Rattle.rules.specs.Vector.{ahead, at_most, one_up, nobody}
use Rattle.rules.proofs.MeasureRows.{both_left, both_right}

pub none-ahead : (xs ys : List ℕ) → at_most ys xs ≡ true → ahead xs ys ≡ nobody
unfolding ahead at_most
none-ahead xs [] h = refl
none-ahead [] (y ∷ ys) h = absurd (true≢false (sym h))
none-ahead (x ∷ xs) (y ∷ ys) h =
    rw (le-ltb x y (leb-true y x (both_left (leb y x) (at_most ys xs) h)), none-ahead xs ys (both_right (leb y x) (at_most ys xs) h))
