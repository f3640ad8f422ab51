use borrow.Author.Rules.{rules}
use mathlib.Core.Path.{ap, sym, ◌∙◌}
use Rattle.path.specs.Walks.{schedule_at_as}
use Rattle.path.proofs.WalkLaws.{look-start, look-other, look-quiet, look-here, look_none}
use Rattle.path.proofs.exploring_from.Goals as goal
use Rattle.path.proofs.exploring_from.Goals.{else-is_kind-via-then-is_kind+else-is_exploring, else-is_kind-via-else-is_kind}

pub loop-at-init : goal.loop-at-init
loop-at-init c = (c.through-at.ensures.fits, λ bs h. look-start _ _ _ c.through-at.ensures h)

pub returns-then-is_exploring : goal.returns-then-is_exploring
returns-then-is_exploring c =
    record { below = search rules; says = λ bs h. look-here _ _ c.loop-at-test.true _ c.is_kind.ensures h c.if-is_kind.true _ c.is_exploring.ensures c.if-is_exploring.true ∙ ap schedule_at_as (sym (c.loop-at.invariant.1 bs h)) }

pub loop-at-preserved : goal.loop-at-preserved
loop-at-preserved c =
    elim c.else-is_kind.branch [
      | else-is_kind-via-then-is_kind+else-is_exploring w ↦ (search rules, λ bs h. c.loop-at.invariant.1 bs h ∙ look-quiet _ _ c.loop-at-test.true _ c.is_kind.ensures h w.if-is_kind.true _ w.is_exploring.ensures w.if-is_exploring.false)
      | else-is_kind-via-else-is_kind w ↦ (search rules, λ bs h. c.loop-at.invariant.1 bs h ∙ look-other _ _ c.loop-at-test.true _ c.is_kind.ensures h w.if-is_kind.false)
    ]

pub returns : goal.returns
returns c =
    record { below = search rules; says = λ bs h. look_none bs _ c.loop-at-test.false ∙ ap schedule_at_as (sym (c.loop-at.invariant.1 bs h)) }
