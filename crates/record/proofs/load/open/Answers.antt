use mathlib.Core.Path.{◌∙◌}
use Rattle.record.proofs.LoadLaws.{left-of}
use Rattle.record.proofs.load.open.Goals as goal

pub returns : goal.returns
returns c =
    left-of _ _ _ _ _ (c.wide8-2.ensures.same ∙ c.field-2.ensures) (c.wide8.ensures.same ∙ c.field.ensures) c.left.ensures
