use mathlib.Core.Path.{sym, ◌∙◌}
use Rattle.token.proofs.PlaceLaws.{left_by}
use Rattle.filling.proofs.LineLaws.{bare-on, bare-refused}
use Rattle.filling.proofs.bare_then.Goals as goal

pub returns-then-ends_line : goal.returns-then-ends_line
returns-then-ends_line c =
    let a = c.args in
    bare-on a.text.now a.reached.at c.past_blanks-here.result a.reached.rows (left_by a.text.now a.reached.at c.past_blanks-here.result _ c.past_blanks-here.ensures) c.next_line.result a.reached.length (left_by a.text.now c.past_blanks-here.result c.next_line.result _ c.next_line.ensures) (sym c.ends_line.ensures ∙ c.if-ends_line.true)

pub returns : goal.returns
returns c = λ table n m held.
    let a = c.args in
    bare-refused a.text.now a.reached.at c.past_blanks-here.result a.reached.rows (left_by a.text.now a.reached.at c.past_blanks-here.result _ c.past_blanks-here.ensures) (sym c.ends_line.ensures ∙ c.if-ends_line.false) table n m
