use mathlib.Core.Path.{refl}
use borrow.Author.Tests.{lt-ltb, le-ltb}
use Rattle.steps.specs.Holds as holds
use Rattle.steps.proofs.HoldLaws.{reads, reads_none}
use Rattle.steps.proofs.held.plain_writer.Goals as goal

pub returns-then-plain-lt-MAX_PLAINS : goal.returns-then-plain-lt-MAX_PLAINS
returns-then-plain-lt-MAX_PLAINS c = let g = c.args in reads g.held.now (holds.plain_writer g.plain) refl (lt-ltb _ _ c.if-plain-lt-MAX_PLAINS.true)

pub returns : goal.returns
returns c = let g = c.args in reads_none g.held.now (holds.plain_writer g.plain) (le-ltb _ _ c.if-plain-lt-MAX_PLAINS.false)
