use mathlib.Core.Path.{◌≡◌}
use lib.ListN.{length, take}
use Rattle.scheduling.proofs.SeedLaws.{seeded}
use Rattle.scheduling.proofs.seed.Given as goal

abbrev pub invariant-loop-t : goal.invariant-loop-t
invariant-loop-t l = (length l.states ≡ 5) × (take l.t l.states ≡ take l.t (seeded l.numbers))
