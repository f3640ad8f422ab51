use mathlib.Core.Path.{◌≡◌}
use Rattle.rules.specs.Cell.{cells_acquired, fence_acquired}
use Prim.Native.Nat.{◌-◌}
use Rattle.fence.proofs.fence_acq.Given as goal

abbrev pub invariant-loop-cell : goal.invariant-loop-cell
invariant-loop-cell l =
    cells_acquired l.clocks l.marks l.numbers l.thread (l.cells - l.cell) l.cell ≡ fence_acquired l.initial.clocks l.marks l.numbers l.thread l.cells
