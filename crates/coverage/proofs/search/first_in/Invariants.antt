use Prim.Native.Nat.{◌-◌}
use mathlib.Core.Path.{◌≡◌}
use Rattle.rules.specs.Table.{first_not}
use Rattle.coverage.specs.Covered.{one_below, first_in_thread}
use Rattle.coverage.proofs.SearchLaws.{stays}
use Rattle.coverage.proofs.search.first_in.Given as goal

abbrev pub invariant-loop-row : goal.invariant-loop-row
invariant-loop-row l =
    one_below l.count (first_not (stays l.table l.shape l.on l.thread) (l.count - l.row) l.row) ≡ first_in_thread l.table l.shape l.on l.thread
