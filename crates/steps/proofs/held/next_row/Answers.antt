use native.Mathlib.Omega.{arith}
use borrow.Author.Tests.{lt-ltb, le-ltb}
use Rattle.steps.specs.Holds as holds
use Rattle.steps.proofs.HoldLaws.{reads, reads_none}
use Rattle.steps.proofs.held.next_row.Goals as goal

pub returns-then-t-lt-MAX_THREADS : goal.returns-then-t-lt-MAX_THREADS
returns-then-t-lt-MAX_THREADS c = let g = c.args in reads g.held.now (holds.next_row g.thread) (omega arith) (lt-ltb g.thread 5 (omega arith))

pub returns : goal.returns
returns c = let g = c.args in reads_none g.held.now (holds.next_row g.thread) (le-ltb g.thread 5 (omega arith))
