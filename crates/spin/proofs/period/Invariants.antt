use mathlib.Core.Path.{◌≡◌}
use Rattle.spin.specs.Loops.{period_of}
use Rattle.spin.proofs.LoopLaws.{period_left}
use Rattle.spin.proofs.period.Given as goal

abbrev pub invariant-loop-p : goal.invariant-loop-p
invariant-loop-p l = period_left l.trace l.n l.p ≡ period_of l.trace l.n
