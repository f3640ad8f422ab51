use mathlib.Core.Path.{◌≡◌}
use Rattle.rules.specs.Cell.{acquired_from, cell_acquired}
use Rattle.rules.specs.State.{marks_of}
use Prim.Native.Nat.{◌-◌}
use Rattle.fence.proofs.fence_acq_cell.Given as goal

abbrev pub invariant-loop-k : goal.invariant-loop-k
invariant-loop-k l =
    acquired_from l.clocks (marks_of l.marks l.cell) l.count l.thread l.cell (l.live - l.k) l.k ≡ cell_acquired l.initial.clocks (marks_of l.marks l.cell) l.count l.thread l.cell
