use borrow.Author.Rules.{rules}
use Rattle.path.proofs.WalkLaws.{mark-none, mark-one, mark-two}
use native.Mathlib.Omega.{arith}
use Rattle.record.proofs.Places.{place-below}
use Rattle.path.proofs.backtrack.Goals as goal

pub returns-in_default : goal.returns-in_default
returns-in_default c =
    record { few = search rules; keeps = search rules; marks = λ bs h. mark-none _ c.args.thread _ c.exploring_from.ensures h c.args.bound c.in_default.is }

pub backtrack_at-opened-requires : goal.backtrack_at-opened-requires
backtrack_at-opened-requires c =
    omega (arith, place-below c.in-Some.is c.exploring_from.ensures.below)

pub returns-then-is_none : goal.returns-then-is_none
returns-then-is_none c =
    record { few = omega (arith, c.backtrack_at-opened.ensures.few); keeps = search rules; marks = λ bs h. mark-one _ c.args.thread _ c.exploring_from.ensures h _ c.in-Some.is c.args.bound c.if-is_none.ensures _ _ c.backtrack_at-opened.ensures }

pub backtrack_before-requires : goal.backtrack_before-requires
backtrack_before-requires c =
    omega (arith, place-below c.in-Some.is c.exploring_from.ensures.below)

pub overflow_add-result : goal.overflow_add-result
overflow_add-result c =
    omega (arith, c.backtrack_at-opened.ensures.few, c.backtrack_before.ensures.few)

pub returns : goal.returns
returns c =
    record { few = omega (arith, c.backtrack_at-opened.ensures.few, c.backtrack_before.ensures.few); keeps = search rules; marks = λ bs h. mark-two _ c.args.thread _ c.exploring_from.ensures h _ c.in-Some.is c.args.bound c.if-is_none.ensures _ _ _ _ c.backtrack_at-opened.ensures c.backtrack_before.ensures }
