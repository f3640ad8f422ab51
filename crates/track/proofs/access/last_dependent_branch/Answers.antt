use borrow.Author.Rules.{rules}
use Rattle.track.proofs.LastAccessLaws.{branch-load, branch-other}
use Rattle.track.proofs.access.last_dependent_branch.Goals as goal
use Rattle.track.proofs.access.last_dependent_branch.Goals.{else-operation-eq-A_LOAD, then-operation-eq-A_LOAD}

pub overflow_add-result : goal.overflow_add-result
overflow_add-result c = elim c.if-operation-eq-A_LOAD.branch [
  | then-operation-eq-A_LOAD w ↦ search rules
  | else-operation-eq-A_LOAD w ↦ search rules
]

pub offset_bounds-numbers-at : goal.offset_bounds-numbers-at
offset_bounds-numbers-at c = elim c.if-operation-eq-A_LOAD.branch [
  | then-operation-eq-A_LOAD w ↦ search rules
  | else-operation-eq-A_LOAD w ↦ search rules
]

pub bounds-numbers-at : goal.bounds-numbers-at
bounds-numbers-at c = elim c.if-operation-eq-A_LOAD.branch [
  | then-operation-eq-A_LOAD w ↦ search rules
  | else-operation-eq-A_LOAD w ↦ search rules
]

pub returns : goal.returns
returns c =
    let args = c.args in
    elim c.if-operation-eq-A_LOAD.branch [
      | then-operation-eq-A_LOAD w ↦ branch-load _ args.operation.cell _ args.numbers.now w.if-operation-eq-A_LOAD.true (rw w.at-is)
      | else-operation-eq-A_LOAD w ↦ branch-other _ args.operation.cell _ args.numbers.now w.if-operation-eq-A_LOAD.false (rw w.at-is)
    ]
