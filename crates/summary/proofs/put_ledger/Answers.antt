use borrow.Author.Rules.{rules}
use Rattle.rules.specs.Token.{bytes_of}
use Rattle.summary.specs.Summaries.{put_ledger}
use Rattle.summary.proofs.put_ledger.Goals as goal

pub returns : goal.returns
unfolding put_ledger bytes_of
returns c = search rules
