use Rattle.record.proofs.FieldLaws.{begun-by}
use Rattle.record.proofs.fields.begin.Goals as goal

pub returns : goal.returns
returns c =
    begun-by _ _ c.requires _ _ _ _ _ c.put.ensures c.put-2.ensures c.flag.ensures
