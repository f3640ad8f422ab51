use native.Mathlib.Omega.{arith}
use Rattle.record.proofs.FieldLaws.{part-is}
use Rattle.record.proofs.fields.part.Goals as goal

pub returns : goal.returns
returns c = part-is _ _ c.requires.0 _ _ _ c.requires.1 (omega arith)
