use mathlib.Core.Bool.{◌||◌}
use mathlib.Core.Path.{◌≡◌}
use lib.ListN.{drop}
use Rattle.rules.specs.Seen.{seen}
use Rattle.synchronize.proofs.first_seen.FirstSeen.is_seen_by_current.Given as goal

abbrev pub invariant-loop-i : goal.invariant-loop-i
invariant-loop-i l =
    l.seen || seen (drop l.i l.self.versions) (drop l.i l.causality) ≡ seen l.self.versions l.causality
