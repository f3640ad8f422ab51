use borrow.Author.Rules.{rules}
use borrow.Author.Tests.{not-true, not-false}
use mathlib.Core.Path.{◌∙◌}
use Rattle.record.proofs.ScheduleLaws.{prev-above, prev-other, prev-there}
use Rattle.record.proofs.schedule.prev.Goals as goal

pub returns-then-at-prev : goal.returns-then-at-prev
returns-then-at-prev c =
    record { below = search rules; is = prev-above _ _ _ _ (c.wide8-low.ensures.same ∙ c.field.ensures) (c.wide8-high.ensures.same ∙ c.field-2.ensures) c.if-at-prev.true }

pub returns-then-not-is_kind : goal.returns-then-not-is_kind
returns-then-not-is_kind c =
    record { below = search rules; is = prev-other _ _ _ _ (c.wide8-low.ensures.same ∙ c.field.ensures) (c.wide8-high.ensures.same ∙ c.field-2.ensures) c.if-at-prev.false _ c.is_kind.ensures (not-true _ c.if-not-is_kind.true-raw) }

pub returns : goal.returns
returns c =
    record { below = search rules; is = prev-there _ _ _ _ (c.wide8-low.ensures.same ∙ c.field.ensures) (c.wide8-high.ensures.same ∙ c.field-2.ensures) c.if-at-prev.false _ c.is_kind.ensures (not-false _ c.if-not-is_kind.false-raw) }
