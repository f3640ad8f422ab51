use Rattle.saying.proofs.SayLaws.{clear_none, clear-long, clear_first}
use Rattle.saying.proofs.is_clear.Goals as goal

pub returns-then-word-eq0 : goal.returns-then-word-eq0
returns-then-word-eq0 c = clear_none c.args.word.now c.if-word-eq0.true

pub returns-then-word-gt-NAMED : goal.returns-then-word-gt-NAMED
returns-then-word-gt-NAMED c = clear-long c.args.word.now c.if-word-eq0.false c.if-word-gt-NAMED.true

pub returns : goal.returns
returns c = clear_first c.args.word.now c.if-word-eq0.false c.if-word-gt-NAMED.false
