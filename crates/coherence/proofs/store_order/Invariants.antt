use mathlib.Core.Path.{◌≡◌}
use Prim.Native.Nat.{◌-◌}
use Rattle.rules.specs.Cell.{store_order_from, store_order}
use Rattle.rules.specs.State.{marks_of}
use Rattle.coherence.proofs.store_order.Given as goal

abbrev pub invariant-loop-slot : goal.invariant-loop-slot
invariant-loop-slot l =
    store_order_from l.clocks (marks_of l.marks l.cell) l.thread l.cell l.order (l.live - l.slot) l.slot ≡ store_order l.clocks (marks_of l.marks l.cell) l.count l.thread l.cell
