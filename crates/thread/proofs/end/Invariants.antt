use mathlib.Core.Path.{◌≡◌}
use Prim.Native.Nat.{◌-◌}
use Rattle.rules.specs.Machine.{for_threads, freed}
use Rattle.thread.proofs.end.Given as goal

abbrev pub invariant-loop-t : goal.invariant-loop-t
invariant-loop-t l = for_threads (freed l.thread) (5 - l.t) l.t l.numbers ≡ for_threads (freed l.thread) 5 0 l.initial.numbers
