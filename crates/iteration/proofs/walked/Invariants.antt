use Prim.Native.Nat.{◌≤◌, ◌-◌}
use Rattle.meeting.specs.Stands.{lent}
use Rattle.iteration.specs.Executes.{Ticking}
use Rattle.iteration.proofs.walked.Given as goal

abbrev pub invariant-loop : goal.invariant-loop
invariant-loop l =
    (l.counter ≤ l.fuel)
    × Ticking (lent l.initial.clocks l.initial.marks l.initial.values l.initial.numbers l.initial.path l.initial.trace) (lent l.clocks l.marks l.values l.numbers l.path l.trace) l.table l.shape l.limits l.initial.now l.now l.counter

abbrev pub decreases-loop : goal.decreases-loop
decreases-loop l = l.fuel - l.counter
