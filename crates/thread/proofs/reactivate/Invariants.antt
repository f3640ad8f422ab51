use mathlib.Core.Path.{◌≡◌}
use Prim.Native.Nat.{◌-◌}
use Rattle.rules.specs.Machine.{for_threads, awake}
use Rattle.thread.proofs.reactivate.Given as goal

abbrev pub invariant-loop-t : goal.invariant-loop-t
invariant-loop-t l = for_threads (awake l.chosen) (5 - l.t) l.t l.numbers ≡ for_threads (awake l.chosen) 5 0 l.initial.numbers
