use borrow.Author.Rules.{rules}
use borrow.Author.Tests.{not-true, not-false}
use mathlib.Core.Path.{sym, ◌∙◌}
use Rattle.path.proofs.WalkLaws.{walk_none, walk-end, walk_here, walk-quiet, walk_same, some-below}
use native.Mathlib.Omega.{arith}
use Rattle.record.proofs.Places.{place-below}
use Rattle.path.proofs.switch_from.Goals as goal
use Rattle.path.proofs.switch_from.Goals.{else-exploring-via-then-exploring+else-ne, else-exploring-via-else-exploring}

pub loop-prev-init : goal.loop-prev-init
loop-prev-init c = (search rules, walk_none _ _)

pub returns-in_default : goal.returns-in_default
returns-in_default c =
    record { below = rw c.then_some.ensures (some-below _ (omega arith)); says = λ bs s h. c.then_some.ensures ∙ walk-end _ _ _ c.loop-prev.invariant.1 _ c.prev.ensures _ c.is_exploring-exploring.ensures h c.in_default.is }

pub active_thread_index-requires-then-exploring : goal.active_thread_index-requires-then-exploring
active_thread_index-requires-then-exploring c =
    omega (arith, place-below c.in-Some.is c.prev.ensures.below)

pub returns-then-ne : goal.returns-then-ne
returns-then-ne c =
    record { below = search rules; says = λ bs s h. walk_here _ _ _ c.loop-prev.invariant.1 _ c.prev.ensures _ c.is_exploring-exploring.ensures h _ c.in-Some.is c.if-exploring.true _ _ c.active_thread_index.ensures c.active_thread_index-then-exploring.ensures (not-true _ (sym c.ne.ensures ∙ c.if-ne.true)) }

pub loop-prev-smaller : goal.loop-prev-smaller
loop-prev-smaller c =
    omega (arith, place-below c.in-Some.is c.prev.ensures.below)

pub loop-prev-preserved : goal.loop-prev-preserved
loop-prev-preserved c =
    elim c.else-exploring.branch [
      | else-exploring-via-then-exploring+else-ne w ↦ (omega (arith, place-below c.in-Some.is c.prev.ensures.below), λ bs s h. walk_same _ _ _ c.loop-prev.invariant.1 _ c.prev.ensures _ c.is_exploring-exploring.ensures h _ c.in-Some.is w.if-exploring.true _ _ w.active_thread_index.ensures w.active_thread_index-then-exploring.ensures (not-false _ (sym w.ne.ensures ∙ w.if-ne.false)))
      | else-exploring-via-else-exploring w ↦ (omega (arith, place-below c.in-Some.is c.prev.ensures.below), λ bs s h. walk-quiet _ _ _ c.loop-prev.invariant.1 _ c.prev.ensures _ c.is_exploring-exploring.ensures h _ c.in-Some.is w.if-exploring.false)
    ]
