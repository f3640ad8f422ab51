use borrow.Author.Rules.{rules}
use Rattle.refusal.specs.Headers.{is_count}
use Rattle.refusal.proofs.header.is_count.Goals as goal

pub returns : goal.returns
unfolding is_count
returns c = search rules
