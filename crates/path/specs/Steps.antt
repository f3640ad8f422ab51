-- What is open in a path, and the next path, as each function answers it. Assumes nothing.
use Rattle.std.specs.Prelude.{ℕ, ◌*◌, ◌≤◌, List, Bool, ◌≡◌, ltb, length}
use Rattle.rules.specs.Path.{Branch, open_in, stepped}
use Rattle.path.specs.Holds.{Holds}

pub record AnyOpen (path : List ℕ) (len : ℕ) (r : Bool) : Type 0 where
  pub is : (bs : List Branch) → Holds path bs → length bs ≡ len → r ≡ ltb 0 (open_in bs)

pub record OpenIn (path : List ℕ) (len r : ℕ) : Type 0 where
  pub few : r ≤ 6 * len
  pub is : (bs : List Branch) → Holds path bs → length bs ≡ len → r ≡ open_in bs

pub record StepsPath (entry exit : List ℕ) (len r : ℕ) : Type 0 where
  pub few : r ≤ len
  pub fits : 16 * r ≤ length entry
  pub keeps : length exit ≡ length entry
  pub left : (bs : List Branch) → Holds entry bs → length bs ≡ len → r ≡ length (stepped bs)
  pub holds : (bs : List Branch) → Holds entry bs → length bs ≡ len → Holds exit (stepped bs)
