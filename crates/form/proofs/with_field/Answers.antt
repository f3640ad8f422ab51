use mathlib.Core.Path.{◌∙◌, sym}
use Rattle.form.proofs.LetterLaws.{with_found, with_none}
use Rattle.form.proofs.with_field.Goals as goal

pub returns-in-Some : goal.returns-in-Some
returns-in-Some c = with_found c.args.piece.now c.args.fields c.args.value _ (sym c.field_in.ensures ∙ c.in-Some.is)

pub returns-in_default : goal.returns-in_default
returns-in_default c = with_none c.args.piece.now c.args.fields c.args.value (sym c.field_in.ensures ∙ c.in_default.is)
