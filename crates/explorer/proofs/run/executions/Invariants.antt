use Prim.Native.Nat.{◌-◌}
use mathlib.Core.Path.{◌≡◌}
use lib.ListN.{length}
use Rattle.settings.specs.Given.{settings_of}
use Rattle.explorer.specs.Runs.{Running}
use Rattle.explorer.proofs.run.executions.Given as goal

abbrev pub invariant-loop-answer : goal.invariant-loop-answer
invariant-loop-answer l =
    Running l.table l.condition (settings_of l.settings) l.path l.trace l.progress × (length l.path ≡ length l.initial.path) × (length l.trace ≡ length l.initial.trace)

abbrev pub decreases-loop-answer : goal.decreases-loop-answer
decreases-loop-answer l = l.settings.executions - l.progress.begun
