use mathlib.Core.Path.{◌≡◌}
use Prim.Native.Nat.{◌-◌}
use Rattle.rules.specs.Machine.{all_over}
use Rattle.thread.proofs.all_ended.Given as goal

abbrev pub invariant-loop-t : goal.invariant-loop-t
invariant-loop-t l = all_over l.numbers (5 - l.t) l.t ≡ all_over l.numbers 5 0
