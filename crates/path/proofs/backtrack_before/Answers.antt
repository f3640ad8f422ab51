use borrow.Author.Rules.{rules}
use Rattle.path.proofs.WalkLaws.{second_none, second-nowhere, second_at}
use native.Mathlib.Omega.{arith}
use Rattle.record.proofs.Places.{place-below}
use Rattle.path.proofs.backtrack_before.Goals as goal

pub returns-in_default : goal.returns-in_default
returns-in_default c =
    record { few = search rules; marks = λ m s h. second_none _ _ _ _ c.prev.ensures m s h c.in_default.is }

pub switch_from-requires : goal.switch_from-requires
switch_from-requires c =
    omega (arith, place-below c.in-Some.is c.prev.ensures.below)

pub returns-in_default-switch_from : goal.returns-in_default-switch_from
returns-in_default-switch_from c =
    record { few = search rules; marks = λ m s h. second-nowhere _ _ _ _ c.prev.ensures m s h _ c.in-Some.is _ c.switch_from.ensures c.in_default-switch_from.is }

pub backtrack_at-requires : goal.backtrack_at-requires
backtrack_at-requires c =
    omega (arith, place-below c.in-Some-switch_from.is c.switch_from.ensures.below, place-below c.in-Some.is c.prev.ensures.below)

pub returns : goal.returns
returns c =
    record { few = c.backtrack_at.ensures.few; marks = λ m s h. second_at _ _ _ _ c.prev.ensures m s h _ c.in-Some.is _ c.switch_from.ensures _ c.in-Some-switch_from.is _ _ c.backtrack_at.ensures }
