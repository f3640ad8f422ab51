use Prim.Native.Nat.{◌+◌}
use Rattle.put.proofs.PutLaws.{puts-in, puts-past}
use Rattle.put.proofs.put_byte.Goals as goal
use Rattle.put.proofs.put_byte.Goals.{then-at-text, else-at-text}

pub returns : goal.returns
returns c =
    elim c.if-at-text.branch [
      | then-at-text w ↦ rw w.text-is (puts-in _ _ _ _ c.saturating_add.ensures)
      | else-at-text w ↦ rw w.text-is (puts-past _ _ _ _ w.if-at-text.false c.saturating_add.ensures)
    ]
