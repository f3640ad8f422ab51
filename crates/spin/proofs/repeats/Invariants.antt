use Prim.Native.Nat.{◌≤◌, ◌-◌}
use mathlib.Core.Path.{◌≡◌}
use Rattle.spin.specs.Loops.{repeats_in}
use Rattle.spin.proofs.LoopLaws.{repeats_left}
use Rattle.spin.proofs.repeats.Given as goal

abbrev pub invariant-loop-i : goal.invariant-loop-i
invariant-loop-i l = (l.p ≤ l.i) × (repeats_left l.trace l.n l.p l.i ≡ repeats_in l.trace l.n l.p)
