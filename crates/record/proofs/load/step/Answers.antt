use borrow.Author.Rules.{rules}
use mathlib.Core.Path.{◌∙◌}
use Rattle.record.proofs.StepLaws.{moved_by, moved-not}
use Rattle.record.proofs.load.step.Goals as goal

pub returns-then-next-wide8 : goal.returns-then-next-wide8
returns-then-next-wide8 c =
    moved_by _ _ _ _ (c.wide8-next.ensures.same ∙ c.field.ensures) (c.wide8.ensures.same ∙ c.field-2.ensures) _ _ c.if-next-wide8.true (search rules) c.put.ensures

pub returns : goal.returns
returns c =
    moved-not _ _ _ _ (c.wide8-next.ensures.same ∙ c.field.ensures) (c.wide8.ensures.same ∙ c.field-2.ensures) c.if-next-wide8.false
