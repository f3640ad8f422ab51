use mathlib.Core.Path.{◌≡◌}
use Prim.Native.Nat.{◌-◌}
use Rattle.rules.specs.State.{marks_of}
use Rattle.rules.specs.Cell.{coherent_from, live_in, order_of}
use Rattle.coherence.proofs.apply_load_coherence.Given as goal

abbrev pub invariant-loop-i : goal.invariant-loop-i
invariant-loop-i l =
    let made = coherent_from l.clocks (marks_of l.marks l.cell) l.thread l.cell l.slot in
    made l.order (l.live - l.i) l.i ≡ made (order_of l.clocks l.cell l.slot) (live_in l.numbers l.cell) 0
