use native.Mathlib.Omega.{arith}
use Rattle.put.proofs.PutLaws.{puts_then, puts-are}
use Rattle.row_line.proofs.LineLaws.{row-whole}
use mathlib.Core.Path.{refl}
use Rattle.rules.specs.Token.{bytes_of}
use Rattle.rules.specs.Form.{forms}
use Rattle.form.specs.Lines.{coded}
use Rattle.row_line.proofs.put_row.Goals as goal

pub put_form-behind-requires : goal.put_form-behind-requires
unfolding bytes_of forms coded
put_form-behind-requires c = refl

pub returns : goal.returns
returns c =
    puts-are _ _ _ _ _ _ (row-whole _ _ c.fields_at-fields.ensures)
    (puts_then _ _ _ _ _ _ _ _ (omega arith) c.put_bytes-first.ensures (puts_then _ _ _ _ _ _ _ _ (omega arith) c.put_form-behind.ensures c.put_byte.ensures))
