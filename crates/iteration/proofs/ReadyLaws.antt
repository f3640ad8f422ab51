-- What an execution may take for granted: the shape of an accepted table is in range. Assumes nothing.
--     ready-shape, ready-header, ready-threads, ready-cells, ready-plains      what follows where checks 2 to 5 have passed
use Prim.Native.Nat.{ℕ, ◌≤◌}
use mathlib.Core.List.{List}
use mathlib.Core.Bool.{true, and-eq-true_iff}
use mathlib.Core.Path.{◌≡◌}
use native.Mathlib.Omega.{arith}
use lib.ListN.{length, get_or}
use borrow.Author.Tests.{leb-true}
use Rattle.rules.specs.Table.{header_bytes, threads_of, cells_of, plains_of, header_fine, shape_of}
use Rattle.rules.specs.Explored.{Settings}
use Rattle.rules.proofs.MeasureAccepted.{good-header}
use Rattle.table.proofs.ShapeLaws.{shape-threads, shape-cells, shape-plains}
use Rattle.iteration.specs.Executes.{RunReady}

header-within : (table : List ℕ) → header_fine table ≡ true → (header_bytes ≤ length table) × (threads_of table ≤ 5) × (cells_of table ≤ 4) × (plains_of table ≤ 4)
unfolding header_fine
header-within table e = let f = simp and-eq-true_iff at e in omega (arith, leb-true)

module _ {table : List ℕ} {s : Settings} {path trace : List ℕ} (ready : RunReady table s path trace) where
  -- "threads 1..5, cells 1..4", "up to four" plain cells
  pub ready-shape : {shape : List ℕ} → shape ≡ shape_of table → (get_or shape 0 0 ≤ 5) × (get_or shape 1 0 ≤ 4) × (get_or shape 12 0 ≤ 4)
  ready-shape e =
      let h = header-within table (good-header table ready.accepted) in
      rw e (omega (arith, shape-threads table h.0, shape-cells table h.0, shape-plains table h.0))

  pub ready-header : header_bytes ≤ length table
  ready-header = (header-within table (good-header table ready.accepted)).0

  pub ready-threads : {shape : List ℕ} → shape ≡ shape_of table → get_or shape 0 0 ≡ threads_of table
  ready-threads e = rw e (shape-threads table ready-header)

  pub ready-cells : {shape : List ℕ} → shape ≡ shape_of table → get_or shape 1 0 ≡ cells_of table
  ready-cells e = rw e (shape-cells table ready-header)

  pub ready-plains : {shape : List ℕ} → shape ≡ shape_of table → get_or shape 12 0 ≡ plains_of table
  ready-plains e = rw e (shape-plains table ready-header)
