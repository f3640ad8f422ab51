use borrow.Author.Rules.{rules}
use Rattle.verdict.specs.Verdicts.{put_verdict}
use Rattle.verdict.proofs.put.Goals as goal

pub returns-then-is_limit : goal.returns-then-is_limit
unfolding put_verdict
returns-then-is_limit c = search rules

pub returns-then-is_refusal : goal.returns-then-is_refusal
unfolding put_verdict
returns-then-is_refusal c = search rules

pub returns-in-0 : goal.returns-in-0
unfolding put_verdict
returns-in-0 c = search rules

pub returns-in-14 : goal.returns-in-14
unfolding put_verdict
returns-in-14 c = search rules

pub returns-in-15 : goal.returns-in-15
unfolding put_verdict
returns-in-15 c = search rules

pub returns-in-18 : goal.returns-in-18
unfolding put_verdict
returns-in-18 c = search rules

pub returns-in_default : goal.returns-in_default
unfolding put_verdict
returns-in_default c = search rules
