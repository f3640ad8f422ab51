use Rattle.change.proofs.ChangeLaws.{compared_same, compared-other}
use Rattle.change.proofs.compare.Goals as goal

pub returns-then-value-expected : goal.returns-then-value-expected
returns-then-value-expected c = compared_same _ _ _ c.if-value-expected.true

pub returns-else-value-expected : goal.returns-else-value-expected
returns-else-value-expected c = compared-other _ _ c.args.new c.if-value-expected.false
