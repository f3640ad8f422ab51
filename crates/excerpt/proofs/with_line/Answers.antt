use mathlib.Core.Path.{sym, ◌∙◌}
use Rattle.excerpt.proofs.RowLaws.{with-bare, with-thread, with_row}
use Rattle.excerpt.proofs.with_line.Goals as goal

pub returns-then-ends_line : goal.returns-then-ends_line
returns-then-ends_line c =
    let a = c.args in
    with-bare a.text.now a.at a.rows c.past_blanks-here.result c.past_blanks-here.ensures (sym c.ends_line.ensures ∙ c.if-ends_line.true)

pub returns-then-is_word : goal.returns-then-is_word
returns-then-is_word c =
    let a = c.args in
    with-thread a.text.now a.at a.rows c.past_blanks-here.result c.past_blanks-here.ensures (sym c.ends_line.ensures ∙ c.if-ends_line.false) c.token_end-to.result c.token_end-to.ensures _ c.is_word.ensures c.if-is_word.true

pub returns : goal.returns
returns c =
    let a = c.args in
    with_row a.text.now a.at a.rows c.past_blanks-here.result c.past_blanks-here.ensures (sym c.ends_line.ensures ∙ c.if-ends_line.false) c.token_end-to.result c.token_end-to.ensures _ c.is_word.ensures c.if-is_word.false
