use Prim.Native.Nat.{◌-◌}
use mathlib.Core.Path.{◌≡◌}
use Rattle.rules.specs.Table.{max_threads}
use Rattle.coverage.specs.Covered.{first_from, first_switch}
use Rattle.coverage.proofs.search.first_switch.Given as goal

abbrev pub invariant-loop-thread : goal.invariant-loop-thread
invariant-loop-thread l =
    first_from l.table l.shape l.on (max_threads - l.thread) l.thread ≡ first_switch l.table l.on
