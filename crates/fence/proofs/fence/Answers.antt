use Rattle.rules.specs.Cell.{fenced, fence_released}
use Rattle.fence.proofs.FenceLaws.{fence-as, fence-none}
use Rattle.fence.proofs.fence.Goals as goal

pub returns-in-2 : goal.returns-in-2
unfolding fenced
returns-in-2 c = let args = c.args in fence-as args.clocks.now args.marks.now args.numbers.now args.thread args.cells _ _ _ c.in-2.is c.fence_acq.ensures

pub returns-in-1 : goal.returns-in-1
unfolding fenced fence_released
returns-in-1 c = let args = c.args in fence-as args.clocks.now args.marks.now args.numbers.now args.thread args.cells _ _ _ c.in-1.is c.fence_rel.ensures

pub returns-in-3 : goal.returns-in-3
unfolding fenced
returns-in-3 c = let args = c.args in fence-as args.clocks.now args.marks.now args.numbers.now args.thread args.cells _ _ _ c.in-3.is c.fence_acqrel.ensures

pub returns-in-4 : goal.returns-in-4
unfolding fenced
returns-in-4 c = let args = c.args in fence-as args.clocks.now args.marks.now args.numbers.now args.thread args.cells _ _ _ c.in-4.is c.fence_seqcst.ensures

pub returns-in_default : goal.returns-in_default
returns-in_default c = let args = c.args in fence-none _ args.marks.now args.numbers.now args.thread args.cells _ c.in_default.in_default-own.rest.0.0.1 c.in_default.in_default-own.rest.0.0.0.1 c.in_default.in_default-own.rest.0.1 c.in_default.in_default-own.rest.1
