use Prim.Native.Nat.{◌+◌, ◌≤◌, ◌-◌}
use mathlib.Core.Path.{◌≡◌}
use Rattle.coverage.specs.Covered.{summed, stores_in}
use Rattle.coverage.proofs.SearchLaws.{storing}
use Rattle.coverage.proofs.search.stores_in.Given as goal

abbrev pub invariant-loop-row : goal.invariant-loop-row
invariant-loop-row l =
    (l.sum ≤ l.row) × (l.sum + summed (storing l.table l.shape l.cell l.thread) (l.count - l.row) l.row ≡ stores_in l.table l.shape l.cell l.thread)
