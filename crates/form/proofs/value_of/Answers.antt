use Prim.Native.Nat.{◌<◌, ◌≤◌}
use mathlib.Core.Bool.{Bool}
use mathlib.Core.Path.{ap, sym, ◌∙◌}
use Rattle.std.specs.Prelude.{is_some}
use Rattle.std.specs.Bool.{then_some}
use Rattle.token.specs.Finds.{found_of}
use Rattle.form.specs.Letters.{field_in}
use Rattle.form.proofs.LetterLaws.{field-found, field-lost, found_then, letter-there, value-letter, value-by}
use Rattle.form.proofs.value_of.Goals as goal

pub bounds-piece-0 : goal.bounds-piece-0
bounds-piece-0 c =
    let letter : field_in c.args.piece.now < 9 =
    field-found _ (sym (c.is_some.ensures ∙ ap is_some c.field_in.ensures) ∙ c.if-is_some.true) in
    letter-there _ letter

pub returns-then-is_some : goal.returns-then-is_some
returns-then-is_some c =
    let letter : field_in c.args.piece.now < 9 =
    field-found _ (sym (c.is_some.ensures ∙ ap is_some c.field_in.ensures) ∙ c.if-is_some.true) in
    c.letter_in.ensures ∙ value-letter _ letter _ _

pub returns : goal.returns
returns c =
    let word : 9 ≤ field_in c.args.piece.now =
    field-lost _ (sym (c.is_some.ensures ∙ ap is_some c.field_in.ensures) ∙ c.if-is_some.false) in
    ap found_of (c.then_some.ensures ∙ ap (λ (t : Bool). then_some t 0) c.is_word.ensures) ∙ found_then _ _ ∙ value-by c.args.piece.now word _ _
