use mathlib.Core.Bool.{true, false}
use mathlib.Core.Path.{sym, ◌∙◌}
use Rattle.condition_line.proofs.UnitLaws.{bytes-sign}
use Rattle.condition_line.proofs.unit_bytes.Goals as goal

pub returns-then-is_sign : goal.returns-then-is_sign
returns-then-is_sign c = bytes-sign c.args.byte true (sym c.is_sign.ensures ∙ c.if-is_sign.true)

pub returns-else-is_sign : goal.returns-else-is_sign
returns-else-is_sign c = bytes-sign c.args.byte false (sym c.is_sign.ensures ∙ c.if-is_sign.false)
