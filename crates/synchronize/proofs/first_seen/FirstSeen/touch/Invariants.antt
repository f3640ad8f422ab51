use mathlib.Core.Path.{◌≡◌}
use lib.ListN.{length}
use Rattle.synchronize.proofs.SeenLaws.{touching}
use Rattle.synchronize.proofs.first_seen.FirstSeen.touch.Given as goal

abbrev pub invariant-loop-i : goal.invariant-loop-i
invariant-loop-i l =
    (length l.self.versions ≡ 5) × (l.self.versions ≡ touching l.initial.self.versions l.thread l.version l.i)
