use Prim.Native.Nat.{◌-◌}
use mathlib.Core.Path.{◌≡◌}
use Rattle.rules.specs.Machine.{for_threads, no_yield}
use Rattle.start.proofs.clear_yields.Given as goal

abbrev pub invariant-loop-t : goal.invariant-loop-t
invariant-loop-t l = for_threads no_yield (5 - l.t) l.t l.numbers ≡ for_threads no_yield 5 0 l.initial.numbers
