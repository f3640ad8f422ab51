use Rattle.record.proofs.FieldLaws.{clear-by}
use Rattle.record.proofs.fields.clear.Goals as goal

pub returns : goal.returns
returns c = clear-by _ _ c.requires _ c.put_part.ensures
