use mathlib.Core.List.{[]}
use mathlib.Core.Bool.{true}
use Rattle.track.proofs.LastAccessLaws.{conflict-none, conflict-asked}
use Rattle.track.proofs.access.is_concurrent.Goals as goal

pub returns-then-last_dependent_branch : goal.returns-then-last_dependent_branch
returns-then-last_dependent_branch c = conflict-none _ _ _ _ [] true c.last_dependent_branch.ensures c.if-last_dependent_branch.true

pub returns : goal.returns
returns c =
    conflict-asked _ _ _ _ _ _ c.last_dependent_branch.ensures c.if-last_dependent_branch.false c.last_dependent_version-version.ensures c.at_most.ensures
