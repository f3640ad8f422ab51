use mathlib.Core.Path.{refl, ap, ◌∙◌}
use native.Mathlib.Omega.{arith}
use Rattle.page.specs.Pages.{put_text}
use Rattle.row_text.proofs.RowLaws.{nothing_put, long-none, short-never, words-cut}
use Rattle.row_text.proofs.put_at.Goals as goal

pub returns-then-to-gt-ROW_LINE : goal.returns-then-to-gt-ROW_LINE
returns-then-to-gt-ROW_LINE c = nothing_put _ _ (long-none _ _ _ _ c.put_row-to.ensures c.if-to-gt-ROW_LINE.true)

pub returns-then-to-le-BLANKS : goal.returns-then-to-le-BLANKS
returns-then-to-le-BLANKS c = absurd (short-never _ _ _ _ c.put_row-to.ensures (omega arith) c.if-to-le-BLANKS.true)

pub returns : goal.returns
returns c =
    c.put.ensures ∙ ap (put_text _) (words-cut _ _ _ _ c.put_row-to.ensures refl (omega arith))
