use borrow.Author.Rules.{rules}
use Rattle.rules.specs.Token.{bytes_of}
use Rattle.summary.specs.Summaries.{put_thread}
use Rattle.summary.proofs.put_thread.Goals as goal

pub returns-then-end-eq-ABSENT : goal.returns-then-end-eq-ABSENT
unfolding put_thread bytes_of
returns-then-end-eq-ABSENT c = search rules

pub returns : goal.returns
unfolding put_thread bytes_of
returns c = search rules
