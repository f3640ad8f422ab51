use native.Mathlib.Omega.{arith}
use Rattle.record.proofs.FieldLaws.{part-put}
use Rattle.record.proofs.fields.put_part.Goals as goal

pub returns : goal.returns
returns c = part-put _ _ c.requires.0 _ _ _ _ c.requires.1 (omega arith) c.copy_from_slice.ensures.after
