-- Why a table or a condition is refused, in words. Assumes nothing.
--     put_refusal     what is wrong with the row that is named; where none is, with the header or the length, or else with the condition
use Rattle.std.specs.Prelude.{ℕ, ◌%◌, List, cond, eqb}
use Rattle.rules.specs.Table.{Judged, good, bad_header, bad_row, judged}
use Rattle.page.specs.Pages.{Page}
use Rattle.bad_row.specs.Rows.{put_bad_row}
use Rattle.bad_condition.specs.Conditions.{put_bad_condition}
use Rattle.refusal.specs.Headers.{put_header}

-- no row is named: the condition is judged behind the table
abbrev pub put_unnamed : Page → List ℕ → List ℕ → Judged → Page
put_unnamed l t condition good = put_bad_condition l t condition
put_unnamed l t condition bad_header = put_header l t
put_unnamed l t condition (bad_row thread row) = put_header l t

-- "for 5 the first bad row, or 255, 255 if header or length is bad": both are bytes
unfoldable pub put_refusal : Page → List ℕ → List ℕ → ℕ → ℕ → Page
put_refusal l t condition thread row =
    cond (eqb thread 255) (put_unnamed l t condition (judged t)) (put_bad_row l t (thread % 256) (row % 256))
