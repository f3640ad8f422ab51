use Prim.Native.Nat.{◌≤◌, ◌*◌, ◌-◌}
use mathlib.Core.Path.{◌≡◌}
use lib.ListN.{length}
use Rattle.meeting.specs.Branches.{MarksBelow}
use Rattle.meeting.proofs.mark_threads.Given as goal

abbrev pub invariant-loop-t : goal.invariant-loop-t
invariant-loop-t l = (l.t ≤ 5) × (l.opened ≤ 10 * l.t) × (length l.path ≡ length l.initial.path) × MarksBelow l.clocks l.numbers l.initial.path l.path l.bound l.t l.opened
