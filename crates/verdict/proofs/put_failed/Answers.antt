use borrow.Author.Rules.{rules}
use Rattle.rules.specs.Token.{bytes_of}
use Rattle.verdict.specs.Verdicts.{put_failed}
use Rattle.verdict.proofs.put_failed.Goals as goal

pub returns-in-10 : goal.returns-in-10
unfolding put_failed bytes_of
returns-in-10 c = search rules

pub returns-in-13 : goal.returns-in-13
unfolding put_failed bytes_of
returns-in-13 c = search rules

pub returns-in-16 : goal.returns-in-16
unfolding put_failed bytes_of
returns-in-16 c = search rules

pub returns-in_default : goal.returns-in_default
unfolding put_failed bytes_of
returns-in_default c = search rules
