use mathlib.Core.Path.{sym, ◌∙◌}
use native.Mathlib.Omega.{arith}
use Rattle.put.proofs.PutLaws.{puts_then, puts-are}
use Rattle.row_line.proofs.LineLaws.{piece-self, piece-register, piece-plain, piece-order, piece-number}
use Rattle.row_line.proofs.put_piece.Goals as goal

pub returns-in_default : goal.returns-in_default
returns-in_default c =
    puts-are _ _ _ _ _ _ (piece-self c.args.byte c.args.fields (sym c.field_of.ensures ∙ c.in_default.is)) c.put_byte.ensures

pub returns-then-byte-eq82 : goal.returns-then-byte-eq82
returns-then-byte-eq82 c =
    puts-are _ _ _ _ _ _
    (piece-register _ c.args.fields c.in-Some.field (sym c.field_of.ensures ∙ c.in-Some.is) c.if-byte-eq82.true)
    (puts_then _ _ _ _ _ _ _ _ (omega arith) c.put_byte-behind.ensures c.put_number.ensures)

pub returns-then-byte-eq80 : goal.returns-then-byte-eq80
returns-then-byte-eq80 c =
    puts-are _ _ _ _ _ _
    (piece-plain _ c.args.fields c.in-Some.field (sym c.field_of.ensures ∙ c.in-Some.is) c.if-byte-eq80.true)
    (puts_then _ _ _ _ _ _ _ _ (omega arith) c.put_byte-behind-then-byte-eq80.ensures c.put_number-then-byte-eq80.ensures)

pub returns-then-field : goal.returns-then-field
returns-then-field c =
    puts-are _ _ _ _ _ _ (piece-order _ c.args.fields c.in-Some.field (sym c.field_of.ensures ∙ c.in-Some.is) c.if-byte-eq82.false c.if-byte-eq80.false c.if-field.true) c.put_order.ensures

pub returns : goal.returns
returns c =
    puts-are _ _ _ _ _ _ (piece-number _ c.args.fields c.in-Some.field (sym c.field_of.ensures ∙ c.in-Some.is) c.if-byte-eq82.false c.if-byte-eq80.false c.if-field.false) c.put_number-2.ensures
