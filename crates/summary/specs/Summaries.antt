-- The counts of a run and the summaries of its threads, a line each. Assumes nothing.
--     put_count      a count, with its name in front
--     put_ledger     the ledger
--     put_heading    the names of the columns
--     put_state      a thread's state, in a word
--     put_thread     the summary of one thread
--     put_legend     what the columns mean, here and in the list of steps
use Rattle.std.specs.Prelude.{ℕ, List, [], ◌∷◌, cond, eqb}
use Rattle.rules.specs.Token.{bytes_of}
use Rattle.rules.specs.Explored.{Summary}
use Rattle.digits.specs.Shown.{shown}
use Rattle.page.specs.Pages.{Page, put_text, padded, right_at}

unfoldable pub put_count : Page → List ℕ → ℕ → Page
put_count p name n = put_text (right_at (put_text p name) 24 n) (bytes_of "\n")

-- a text and a number
abbrev pub put_with : Page → List ℕ → ℕ → Page
put_with p text n = put_text (put_text p text) (shown n)

-- the sign for minus, between blanks, in UTF-8
abbrev pub minus : List ℕ
minus = 32 ∷ 226 ∷ 136 ∷ 146 ∷ 32 ∷ []

-- "executions begun = 1 + choices opened in the whole history − choices open in the path left"
unfoldable pub put_ledger : Page → ℕ → ℕ → ℕ → Page
put_ledger p begun opened left =
    put_text (put_with (put_with (put_with p (bytes_of "ledger: ") begun) (bytes_of " = 1 + ") opened) minus left) (bytes_of "\n")

abbrev pub put_heading : Page → Page
put_heading p = put_text p (bytes_of "\nthread  state     rows begun  yields  version\n")

-- "state (0 absent, 1 runnable, 2 blocked, 3 yielded, 4 ended)"
unfoldable pub put_state : Page → ℕ → Page
put_state p state =
    cond (eqb state 1) (put_text p (bytes_of "runnable"))
    (cond (eqb state 2) (put_text p (bytes_of "blocked"))
    (cond (eqb state 3) (put_text p (bytes_of "yielded"))
    (put_text p (bytes_of "ended"))))

-- its number, state, rows begun, yields and version
abbrev pub put_fields : Page → ℕ → Summary → Page
put_fields p thread s =
    right_at (right_at (right_at (put_state (padded (right_at p 6 thread) 8) s.state) 28 s.rows) 36 s.yields) 45 s.version

-- nothing where it is absent
unfoldable pub put_thread : Page → ℕ → Summary → Page
put_thread p thread s = cond (eqb s.state 0) p (put_text (put_fields p thread s) (bytes_of "\n"))

-- those whose names do not say it
abbrev pub put_legend : Page → Page
put_legend p =
    put_text
    (put_text
    (put_text p (bytes_of "\nslot: where its cell keeps a store; a cell keeps seven, and its start value is the first, in slot 0\n"))
    (bytes_of "offered: the slots that a load may read; where there are several, each is tried\n"))
    (bytes_of "version: counts a thread's atomic accesses, fences and joins, from 1 (thread 0: from 2)\n")
