use Prim.Native.Nat.{◌-◌}
use mathlib.Core.Path.{◌≡◌}
use Rattle.rules.specs.Machine.{fewest_from}
use Rattle.rules.specs.Vector.{nobody}
use Rattle.scheduling.specs.Schedules.{BestWithin}
use Rattle.vv.specs.Whom.{whom}
use Rattle.scheduling.proofs.fewest_yields.Given as goal

abbrev pub invariant-loop-t : goal.invariant-loop-t
invariant-loop-t l = (fewest_from l.numbers (whom l.best) (5 - l.t) l.t ≡ fewest_from l.numbers nobody 5 0) × BestWithin l.best
