use Prim.Native.Nat.{◌-◌}
use mathlib.Core.Path.{◌≡◌}
use Rattle.rules.specs.Machine.{for_threads, no_access}
use Rattle.start.proofs.clear_branches.Given as goal

abbrev pub invariant-loop-cell : goal.invariant-loop-cell
invariant-loop-cell l = for_threads no_access (4 - l.cell) l.cell l.numbers ≡ for_threads no_access 4 0 l.initial.numbers
