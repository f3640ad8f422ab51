use Rattle.reasons.proofs.FieldLaws.{fit-as}
use Rattle.reasons.proofs.is_fit.Goals as goal

pub returns : goal.returns
returns c = fit-as _ _ _ _ _ c.is_row.ensures c.first_fields.ensures
