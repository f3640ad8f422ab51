use mathlib.Core.Path.{refl}
use borrow.Author.Tests.{lt-ltb, le-ltb}
use Rattle.steps.specs.Holds as holds
use Rattle.steps.proofs.HoldLaws.{reads, reads_none}
use Rattle.steps.proofs.held.newest.Goals as goal

pub returns-then-cell-lt-MAX_CELLS : goal.returns-then-cell-lt-MAX_CELLS
returns-then-cell-lt-MAX_CELLS c = let g = c.args in reads g.held.now (holds.newest_value g.cell) refl (lt-ltb _ _ c.if-cell-lt-MAX_CELLS.true)

pub returns : goal.returns
returns c = let g = c.args in reads_none g.held.now (holds.newest_value g.cell) (le-ltb _ _ c.if-cell-lt-MAX_CELLS.false)
