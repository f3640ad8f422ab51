use Prim.Native.Nat.{◌-◌}
use mathlib.Core.Path.{◌≡◌}
use Rattle.spin.specs.Loops.{yields_in}
use Rattle.spin.proofs.LoopLaws.{yields_left}
use Rattle.spin.proofs.yields.Given as goal

abbrev pub invariant-loop-i : goal.invariant-loop-i
invariant-loop-i l = yields_left l.trace l.n l.i ≡ yields_in l.trace l.n l.p
