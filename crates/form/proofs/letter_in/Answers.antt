use mathlib.Core.Bool.{Bool}
use mathlib.Core.Path.{ap, sym, ◌∙◌}
use Rattle.std.specs.Bool.{then_some}
use Rattle.token.specs.Finds.{found_of}
use Rattle.decode.specs.Ops.{room_meant}
use Rattle.form.proofs.LetterLaws.{letter-by, found_then}
use Rattle.form.proofs.letter_in.Goals as goal

pub returns-in_err-value : goal.returns-in_err-value
returns-in_err-value c =
    let a = c.args in
    ap found_of c.from_residual.ensures
    ∙ letter-by (room_meant a.room) _ a.letter _ (sym c.kind_in.ensures ∙ ap found_of c.in_err-value.was)

pub returns : goal.returns
returns c =
    let a = c.args in
    ap found_of (c.then_some.ensures ∙ ap (λ (t : Bool). then_some t c.in_ok-value.value) c.may_stand.ensures)
    ∙ found_then _ _
    ∙ letter-by (room_meant a.room) _ a.letter _ (sym c.kind_in.ensures ∙ ap found_of c.in_ok-value.was)
