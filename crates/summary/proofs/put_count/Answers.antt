use borrow.Author.Rules.{rules}
use Rattle.rules.specs.Token.{bytes_of}
use Rattle.summary.specs.Summaries.{put_count}
use Rattle.summary.proofs.put_count.Goals as goal

pub returns : goal.returns
unfolding put_count bytes_of
returns c = search rules
