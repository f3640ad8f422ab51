use mathlib.Core.Path.{◌≡◌}
use Rattle.last_access.specs.Access.{last_of, is_access, last_access_step}
use Rattle.last_access.proofs.last.Given as goal

abbrev pub invariant-loop-i : goal.invariant-loop-i
invariant-loop-i l =
    last_of (is_access l.table l.trace l.thread l.access.cell l.access.kind) l.i ≡ last_access_step l.table l.trace l.thread l.access.cell l.access.kind l.n
