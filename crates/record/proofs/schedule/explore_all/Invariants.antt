use Rattle.record.specs.Fields.{states_at, with_states_at}
use Rattle.record.proofs.MarkLaws.{explored_to, skips_to}
use Prim.Native.Nat.{◌≤◌}
use mathlib.Core.Path.{◌≡◌}
use lib.ListN.{length}
use Rattle.record.proofs.schedule.explore_all.Given as goal

abbrev pub invariant-loop-thread : goal.invariant-loop-thread
invariant-loop-thread l =
    (l.thread ≤ 5) × (l.opened ≤ l.thread) × (length l.path ≡ length l.initial.path) × (l.path ≡ with_states_at l.initial.path l.at (explored_to l.thread (states_at l.initial.path l.at))) × (l.opened ≡ skips_to l.thread (states_at l.initial.path l.at))
