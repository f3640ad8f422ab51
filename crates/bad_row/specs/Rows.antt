-- A row that is refused, in words. Assumes nothing.
--     thread_row    the row of a thread, in a table of this shape
--     put_bad_row    which row it is, and what is wrong with it
use Rattle.std.specs.Prelude.{ℕ, ◌+◌, List, cond, ltb, get_or}
use Rattle.rules.specs.Token.{bytes_of}
use Rattle.rules.specs.Table.{max_threads, Row, Room, row_at, shape_of}
use Rattle.table.specs.Answers.{room_in}
use Rattle.page.specs.Pages.{Page, put_text, put_filled}
use Rattle.reasons.specs.Wrong.{wrong_in}
use Rattle.bad_row.specs.Words.{put_wrong}

abbrev pub thread_row : List ℕ → List ℕ → ℕ → ℕ → Row
thread_row t shape thread row = row_at t (get_or shape 1 0 + get_or shape 12 0) (get_or shape (7 + thread) 0 + row)

-- in one line, with the field that is wrong first
abbrev pub put_refused_row : Page → ℕ → ℕ → Row → Room → Page
put_refused_row l thread row r room =
    put_text (put_wrong (put_filled l (bytes_of "answer 5: refused: thread #, row #: ") thread row 0) (wrong_in room r) r room) (bytes_of "\n")

-- nothing where there can be no such thread
unfoldable pub put_bad_row : Page → List ℕ → ℕ → ℕ → Page
put_bad_row l t thread row =
    cond (ltb thread max_threads)
    (put_refused_row l thread row (thread_row t (shape_of t) thread row) (room_in (shape_of t) thread row))
    l
