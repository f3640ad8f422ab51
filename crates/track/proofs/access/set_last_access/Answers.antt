use mathlib.Core.Path.{◌≡◌}
use Rattle.rules.specs.State.{Marks, Values}
use Rattle.layout.specs.Tables.{state}
use Rattle.track.specs.LastAccess.{grown_by}
use Rattle.track.proofs.LastAccessLaws.{grown-none, grown-joined, recorded-load, recorded-other}
use Rattle.track.proofs.access.set_last_access.Goals as goal
use Rattle.track.proofs.access.set_last_access.Goals.{else-last_dependent_branch, then-last_dependent_branch}

pub returns-then-operation-ne-A_LOAD : goal.returns-then-operation-ne-A_LOAD
returns-then-operation-ne-A_LOAD c =
    let grew : (marks : Marks) (values : Values) →
    let args = c.args in
    c.raise-schedule.result.versions ≡ grown_by (state args.clocks.now marks values args.numbers.now) args.thread args.operation.action args.operation.cell =
    λ marks values. let args = c.args in
    let st = state args.clocks.now marks values args.numbers.now in
    elim c.if-last_dependent_branch.branch [
      | then-last_dependent_branch w ↦ grown-joined st args.thread args.operation.action args.operation.cell _ _ _ c.last_dependent_branch.ensures c.raise-schedule.ensures w.if-last_dependent_branch.true _ w.last_dependent_version-version.ensures (rw w.schedule-is w.join-schedule.ensures)
      | else-last_dependent_branch w ↦ grown-none st args.thread args.operation.action args.operation.cell _ _ _ c.last_dependent_branch.ensures c.raise-schedule.ensures w.if-last_dependent_branch.false (rw w.schedule-is)
    ] in
    λ marks values. recorded-other _ marks values _ _ _ _ _ _ (grew marks values) c.if-operation-ne-A_LOAD.true

pub returns-else-operation-ne-A_LOAD : goal.returns-else-operation-ne-A_LOAD
returns-else-operation-ne-A_LOAD c =
    let grew : (marks : Marks) (values : Values) →
    let args = c.args in
    c.raise-schedule.result.versions ≡ grown_by (state args.clocks.now marks values args.numbers.now) args.thread args.operation.action args.operation.cell =
    λ marks values. let args = c.args in
    let st = state args.clocks.now marks values args.numbers.now in
    elim c.if-last_dependent_branch.branch [
      | then-last_dependent_branch w ↦ grown-joined st args.thread args.operation.action args.operation.cell _ _ _ c.last_dependent_branch.ensures c.raise-schedule.ensures w.if-last_dependent_branch.true _ w.last_dependent_version-version.ensures (rw w.schedule-is w.join-schedule.ensures)
      | else-last_dependent_branch w ↦ grown-none st args.thread args.operation.action args.operation.cell _ _ _ c.last_dependent_branch.ensures c.raise-schedule.ensures w.if-last_dependent_branch.false (rw w.schedule-is)
    ] in
    λ marks values. recorded-load _ marks values _ _ _ _ _ _ (grew marks values) c.if-operation-ne-A_LOAD.false
