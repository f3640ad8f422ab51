use borrow.Author.Rules.{rules}
use Rattle.track.proofs.LastAccessLaws.{vector-load, vector-other}
use Rattle.track.proofs.access.last_dependent_version.Goals as goal
use Rattle.track.proofs.access.last_dependent_version.Goals.{else-operation-eq-A_LOAD, then-operation-eq-A_LOAD}

pub overflow_add-result : goal.overflow_add-result
overflow_add-result c = elim c.if-operation-eq-A_LOAD.branch [
  | then-operation-eq-A_LOAD w ↦ search rules
  | else-operation-eq-A_LOAD w ↦ search rules
]

pub offset_bounds-clocks-at : goal.offset_bounds-clocks-at
offset_bounds-clocks-at c = elim c.if-operation-eq-A_LOAD.branch [
  | then-operation-eq-A_LOAD w ↦ search rules
  | else-operation-eq-A_LOAD w ↦ search rules
]

pub bounds-clocks-at : goal.bounds-clocks-at
bounds-clocks-at c = elim c.if-operation-eq-A_LOAD.branch [
  | then-operation-eq-A_LOAD w ↦ search rules
  | else-operation-eq-A_LOAD w ↦ search rules
]

pub returns : goal.returns
returns c =
    let args = c.args in
    elim c.if-operation-eq-A_LOAD.branch [
      | then-operation-eq-A_LOAD w ↦ vector-load _ args.operation.cell _ args.clocks.now w.if-operation-eq-A_LOAD.true (rw w.at-is)
      | else-operation-eq-A_LOAD w ↦ vector-other _ args.operation.cell _ args.clocks.now w.if-operation-eq-A_LOAD.false (rw w.at-is)
    ]
