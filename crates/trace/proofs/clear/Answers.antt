use Rattle.trace.proofs.TraceLaws.{cleared-part}
use borrow.Author.Rules.{rules}
use Rattle.trace.proofs.clear.Goals as goal

pub returns-then-from-end : goal.returns-then-from-end
returns-then-from-end c =
    cleared-part c.args.bytes.now _ c.args.from c.args.to _ c.min-end.ensures c.if-from-end.true (c.fill.ensures.after (search rules))
