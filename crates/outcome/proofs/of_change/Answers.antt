use Rattle.steps.proofs.OpLaws.{changed-as}
use Rattle.outcome.specs.Comes.{change_came}
use Rattle.outcome.proofs.of_change.Goals as goal

pub returns-in_default : goal.returns-in_default
unfolding change_came
returns-in_default c = changed-as (change_came _ _) c.apply.ensures c.in_default.is

pub returns : goal.returns
unfolding change_came
returns c = changed-as (change_came _ _) c.apply.ensures c.in-Some.is
