use Prim.Native.Nat.{◌-◌}
use mathlib.Core.Path.{◌≡◌}
use Rattle.rules.specs.State.{Marks, Values}
use Rattle.rules.specs.Machine.{threads_started}
use Rattle.layout.specs.Tables.{state}
use Rattle.start.proofs.start_threads.Given as goal

abbrev pub invariant-loop-t : goal.invariant-loop-t
invariant-loop-t l =
    (marks : Marks) (values : Values) → threads_started (state l.clocks marks values l.numbers) (l.threads - l.t) l.t ≡ threads_started (state l.initial.clocks marks values l.initial.numbers) l.threads 0
