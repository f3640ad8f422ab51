use mathlib.Core.Path.{refl}
use Rattle.steps.specs.Entries.{byte_at}
use Rattle.steps.proofs.EntryLaws.{there, not_there}
use Rattle.steps.proofs.byte.Goals as goal

pub returns-then-i-trace : goal.returns-then-i-trace
unfolding byte_at
returns-then-i-trace c = let g = c.args in there g.trace.now g.i c.if-i-trace.true refl

pub returns : goal.returns
unfolding byte_at
returns c = let g = c.args in not_there g.trace.now g.i _ c.if-i-trace.false
