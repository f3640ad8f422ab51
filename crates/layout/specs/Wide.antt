-- A number as one of more bits. Assumes nothing.
use Rattle.std.specs.Prelude.{ℕ, ◌≤◌, ◌≡◌}

-- r is the number x, and like x no larger than `most`
pub record Wide (most x r : ℕ) : Type 0 where
  pub same : r ≡ x
  pub bounded : r ≤ most
