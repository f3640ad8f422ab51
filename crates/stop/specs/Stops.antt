-- Where the last execution stopped, in words. Assumes nothing.
--     put_how       whether a limit stopped it, or it failed
--     put_row       a row, or that its thread was ending
--     put_place     the row that failed, or at which a limit stopped the run
--     put_waits     the row at which a blocked thread waits
use Rattle.std.specs.Prelude.{ℕ, ◌%◌, List, Bool, cond, ◌||◌, eqb, leb, ltb}
use Rattle.rules.specs.Token.{bytes_of}
use Rattle.rules.specs.Table.{max_threads, max_rows}
use Rattle.rules.specs.Machine.{row_count, blocked}
use Rattle.page.specs.Pages.{Page, put_text, put_filled}
use Rattle.row_text.specs.Rows.{row_said}
use Rattle.steps.specs.Entries.{program}
use Rattle.steps.specs.Holds.{held, next_row}

unfoldable pub put_how : Page → Bool → Page
put_how p limited = cond limited (put_text p (bytes_of "stopped")) (put_text p (bytes_of "failed"))

-- past its last row a thread was ending
unfoldable pub put_row : Page → List ℕ → ℕ → ℕ → Page
put_row p table thread row =
    cond (leb (row_count (program table) thread) row) (put_text p (bytes_of "the thread's end")) (put_text p (row_said table thread row))

-- nothing for a thread or a row that no table has
unfoldable pub put_place : Page → List ℕ → Bool → ℕ → ℕ → Page
put_place p table limited thread row =
    cond (leb max_threads thread || ltb max_rows row) p
    (put_text (put_row (put_filled (put_how p limited) (bytes_of ": thread #, row #: ") thread row 0) table (thread % 256) (row % 256)) (bytes_of "\n"))

-- the row that it is at, by what is held after the last step; nothing in another state
unfoldable pub put_waits : Page → List ℕ → List ℕ → ℕ → ℕ → Page
put_waits p table after thread state =
    cond (eqb state blocked)
    (put_text
    (put_text (put_filled p (bytes_of "failed: thread #, row #, waits without an end: ") thread (held after (next_row thread)) 0)
    (row_said table thread (held after (next_row thread) % 256)))
    (bytes_of "\n"))
    p
