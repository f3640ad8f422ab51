use mathlib.Core.Path.{ap, ◌∙◌}
use native.Mathlib.Omega.{arith}
use Rattle.form.specs.Letters.{found_field}
use Rattle.form.proofs.LetterLaws.{field-long, field-one}
use Rattle.form.proofs.field_in.Goals as goal

pub returns-in_default : goal.returns-in_default
returns-in_default c = ap found_field (field-long c.args.piece.now (grind arith))

pub returns-in_default-2 : goal.returns-in_default-2
returns-in_default-2 c = ap found_field (field-long c.args.piece.now (grind arith))

pub returns : goal.returns
returns c = c.field_of.ensures ∙ ap found_field (field-one c.args.piece.now (omega arith))
