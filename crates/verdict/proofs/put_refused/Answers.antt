use borrow.Author.Rules.{rules}
use Rattle.rules.specs.Token.{bytes_of}
use Rattle.verdict.specs.Verdicts.{put_refused}
use Rattle.verdict.proofs.put_refused.Goals as goal

pub returns-in-2 : goal.returns-in-2
unfolding put_refused bytes_of
returns-in-2 c = search rules

pub returns-in-3 : goal.returns-in-3
unfolding put_refused bytes_of
returns-in-3 c = search rules

pub returns-in-4 : goal.returns-in-4
unfolding put_refused bytes_of
returns-in-4 c = search rules

pub returns-in_default : goal.returns-in_default
unfolding put_refused bytes_of
returns-in_default c = search rules
