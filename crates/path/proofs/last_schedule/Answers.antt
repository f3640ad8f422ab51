use borrow.Author.Rules.{rules}
use native.Mathlib.Omega.{arith}
use mathlib.Core.Path.{ap, sym, ◌∙◌}
use Rattle.path.specs.Walks.{schedule_at_as}
use Rattle.path.proofs.WalkLaws.{last-all, last_on, last-at, last_none}
use Rattle.path.proofs.last_schedule.Goals as goal

pub loop-last-init : goal.loop-last-init
loop-last-init c = (search rules, λ bs h e. last-all bs _ e)

pub returns-then-is_kind : goal.returns-then-is_kind
returns-then-is_kind c =
    record { below = search rules; says = λ bs h e. last-at _ _ c.loop-last-test.true _ c.is_kind.ensures h (omega (arith, c.loop-last.invariant.0)) c.if-is_kind.true ∙ ap schedule_at_as (sym (c.loop-last.invariant.1 bs h e)) }

pub loop-last-preserved : goal.loop-last-preserved
loop-last-preserved c =
    (search rules, λ bs h e. c.loop-last.invariant.1 bs h e ∙ last_on _ _ c.loop-last-test.true _ c.is_kind.ensures h (omega (arith, c.loop-last.invariant.0)) c.if-is_kind.false)

pub returns : goal.returns
returns c = record { below = search rules; says = λ bs h e. last_none bs _ c.loop-last-test.false ∙ ap schedule_at_as (sym (c.loop-last.invariant.1 bs h e)) }
