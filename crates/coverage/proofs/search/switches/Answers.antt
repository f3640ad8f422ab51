use borrow.Enum.Refused.{opened}
use mathlib.Core.Path.{refl}
use Rattle.coverage.proofs.SearchLaws.{switches-none, switches_on, switches-off, switches-else}
use Rattle.coverage.proofs.search.switches.Goals as goal

pub returns-in_default : goal.returns-in_default
returns-in_default c = switches-none c.args.on _ c.in_default.is

pub returns-in-ExploreState : goal.returns-in-ExploreState
returns-in-ExploreState c = switches_on _ _ _ c.in-Some.is c.in-ExploreState.is

pub returns-in-Critical : goal.returns-in-Critical
returns-in-Critical c = switches-off c.args.on _ _ c.in-Some.is _ c.in-Critical.is refl refl

pub returns-in-SkipBranch : goal.returns-in-SkipBranch
returns-in-SkipBranch c = switches-off c.args.on _ _ c.in-Some.is _ c.in-SkipBranch.is refl refl

pub returns-in_default-op : goal.returns-in_default-op
returns-in_default-op c = switches-else c.args.on _ _ c.in-Some.is (opened c.in_default-op.in_default-op-own.keys4)
