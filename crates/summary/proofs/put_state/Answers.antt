use borrow.Author.Rules.{rules}
use Rattle.rules.specs.Token.{bytes_of}
use Rattle.summary.specs.Summaries.{put_state}
use Rattle.summary.proofs.put_state.Goals as goal

pub returns-in-1 : goal.returns-in-1
unfolding put_state bytes_of
returns-in-1 c = search rules

pub returns-in-2 : goal.returns-in-2
unfolding put_state bytes_of
returns-in-2 c = search rules

pub returns-in-3 : goal.returns-in-3
unfolding put_state bytes_of
returns-in-3 c = search rules

pub returns-in_default : goal.returns-in_default
unfolding put_state bytes_of
returns-in_default c = search rules
