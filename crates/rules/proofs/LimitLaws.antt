-- What proofs need of the limits. The limits have their values in the definition alone (Explored, Table); where a proof rests on how
-- large one is, it cites a law from here. Assumes nothing.
--     branches-most, operations-most, executions-most      settings that are not refused
--     branches-fit          a position is a u16 and not the number that stands for none
--     operations-fit        versions, rows and counts stay below the largest number
--     rows_fit              a row's number is a byte and not the number that stands for none
use Prim.Native.Nat.{◌+◌, ◌≤◌, ◌<◌}
use mathlib.Core.Bool.{true, and-eq-true_iff}
use mathlib.Core.Path.{◌≡◌}
use native.Mathlib.Omega.{arith}
use borrow.Author.Tests.{leb-true}
use Rattle.rules.specs.Vector.{largest}
use Rattle.rules.specs.Path.{no_prev}
use Rattle.rules.specs.Table.{max_rows}
use Rattle.rules.specs.Event.{no_site}
use Rattle.rules.specs.Explored.{Settings, settings_fine, max_branches, max_operations, max_executions}

pub branches-most : (s : Settings) → settings_fine s ≡ true → (1 ≤ s.branches) × (s.branches ≤ max_branches)
unfolding settings_fine
branches-most s e = let f = simp and-eq-true_iff at e in omega (arith, leb-true)

pub operations-most : (s : Settings) → settings_fine s ≡ true → (1 ≤ s.operations) × (s.operations ≤ max_operations)
unfolding settings_fine
operations-most s e = let f = simp and-eq-true_iff at e in omega (arith, leb-true)

pub executions-most : (s : Settings) → settings_fine s ≡ true → (1 ≤ s.executions) × (s.executions ≤ max_executions)
unfolding settings_fine
executions-most s e = let f = simp and-eq-true_iff at e in omega (arith, leb-true)

-- "prev u16 or 65535": a position is below B, so it has room in a u16 and is not the number that stands for none; the branch of an
-- access is kept in as much
pub branches-fit : max_branches < no_prev
branches-fit = omega arith

-- a version is at most 2 more than the rows that began, "no version can reach it within L"; 4 leave room for the rest
pub operations-fit : max_operations + 4 ≤ largest
operations-fit = omega arith

-- a row count is a byte of the header, a row's number one of the trace; 255 stands for none
pub rows_fit : max_rows < no_site.row
rows_fit = omega arith
