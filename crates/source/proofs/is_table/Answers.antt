use Rattle.source.proofs.TellLaws.{tell_none, tell-first}
use borrow.Author.Rules.{rules}
use Rattle.source.proofs.is_table.Goals as goal

pub returns-then-bytes-eq0 : goal.returns-then-bytes-eq0
returns-then-bytes-eq0 c = tell_none c.args.bytes.now (search rules)

pub returns : goal.returns
returns c = tell-first c.args.bytes.now _ (search rules) c.wide8-first.ensures.same
