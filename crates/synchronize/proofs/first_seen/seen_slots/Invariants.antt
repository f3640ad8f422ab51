use mathlib.Core.Path.{◌≡◌}
use lib.ListN.{length}
use Rattle.rules.specs.Seen.{seen_slots}
use Rattle.synchronize.proofs.SeenLaws.{answering}
use Rattle.synchronize.proofs.first_seen.seen_slots.Given as goal

abbrev pub invariant-loop-i : goal.invariant-loop-i
invariant-loop-i l =
    (length l.seen ≡ 7) × (answering l.seen l.marks l.causality l.i ≡ seen_slots l.marks l.causality)
