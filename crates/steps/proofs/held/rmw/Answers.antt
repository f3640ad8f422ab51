use mathlib.Core.Path.{refl, ◌∙◌}
use Rattle.steps.specs.Holds.{rmw_left, rmw_held}
use Rattle.steps.proofs.HoldLaws.{left-from}
use Rattle.steps.proofs.OpLaws.{changed-as}
use Rattle.steps.proofs.held.rmw.Goals as goal

pub returns-in-Some : goal.returns-in-Some
unfolding rmw_held
returns-in-Some c =
    left-from rmw_left _ _ _ _ _ _ refl c.put.ensures (c.store.ensures ∙ changed-as (rmw_left _ _ _) c.apply.ensures c.in-Some.is)

pub returns-in_default : goal.returns-in_default
unfolding rmw_held
returns-in_default c =
    left-from rmw_left _ _ _ _ _ _ refl c.put.ensures (changed-as (rmw_left _ _ _) c.apply.ensures c.in_default.is)
