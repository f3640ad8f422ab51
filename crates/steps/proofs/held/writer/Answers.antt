use native.Mathlib.Omega.{arith}
use Rattle.steps.specs.Holds as holds
use Rattle.steps.proofs.HoldLaws.{reads, reads_none, both, not_first, not-second}
use Rattle.steps.proofs.held.writer.Goals as goal

pub returns-then-s-lt-MAX_ATOMIC_HISTORY : goal.returns-then-s-lt-MAX_ATOMIC_HISTORY
returns-then-s-lt-MAX_ATOMIC_HISTORY c =
    let g = c.args in
    reads g.held.now (holds.writer g.cell g.slot) (omega arith) (both g.cell g.slot 4 7 (omega arith) (omega arith))

pub returns-else-s-lt-MAX_ATOMIC_HISTORY : goal.returns-else-s-lt-MAX_ATOMIC_HISTORY
returns-else-s-lt-MAX_ATOMIC_HISTORY c = let g = c.args in reads_none g.held.now (holds.writer g.cell g.slot) (not-second g.cell g.slot 4 7 (omega arith) (omega arith))

pub returns-else-cell-lt-MAX_CELLS : goal.returns-else-cell-lt-MAX_CELLS
returns-else-cell-lt-MAX_CELLS c = let g = c.args in reads_none g.held.now (holds.writer g.cell g.slot) (not_first g.cell g.slot 4 7 (omega arith))
