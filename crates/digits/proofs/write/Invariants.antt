use mathlib.Core.Path.{◌≡◌}
use lib.Seq.{sets}
use Rattle.digits.specs.Shown.{shown}
use Rattle.digits.proofs.ShownLaws.{lowest}
use Rattle.digits.proofs.write.Given as goal

abbrev pub invariant-loop-i : goal.invariant-loop-i
invariant-loop-i l = sets l.out 0 (lowest l.i l.rest) ≡ sets l.initial.out 0 (shown l.n)
