-- Answer 0, in words: nothing failed, and what that covers. Assumes nothing.
--     put_first         the first line
--     put_off           what was tried with exploring off at the start
--     put_explored      with exploring on at the start
--     put_bounded       what a bound leaves
--     put_old_stores     a warning of each cell that has more stores than are kept
--     put_covered       all of this, behind a page's end
use Rattle.std.specs.Prelude.{ℕ, zero, suc, ◌+◌, List, Option, Some, None, true, false, cond, ltb, eqb}
use Rattle.rules.specs.Token.{bytes_of}
use Rattle.rules.specs.Table.{max_cells}
use Rattle.rules.specs.State.{history}
use Rattle.rules.specs.Path.{Bound, unbounded, at_most}
use Rattle.rules.specs.Explored.{Settings}
use Rattle.page.specs.Pages.{Page, put_text, put_filled}
use Rattle.coverage.specs.Covered.{first_switch, store_count}
use Rattle.coverage.specs.declared.search.RowAt.{RowAt}

-- The first line

-- how many executions were begun
unfoldable pub put_executions : Page → ℕ → Page
put_executions l begun = cond (eqb begun 1) (put_text l (bytes_of "1 execution")) (put_filled l (bytes_of "# executions") begun 0 0)

-- with what is said before their count, in which a '#' stands for n
unfoldable pub put_first : Page → List ℕ → ℕ → ℕ → Page
put_first l what n begun = put_text (put_executions (put_filled l what n 0 0) begun) (bytes_of ": no check failed, no race\n")

-- What was tried

-- exploring was off at the start: by the first row that switches it on
abbrev pub put_switched_on : Page → Option RowAt → Page
put_switched_on l None = put_text l (bytes_of "covered: one execution; no other order of the threads and no other load was tried\n")
put_switched_on l (Some site) =
    put_filled l (bytes_of "covered: what is varied while exploring is on, by `explore_state` (first at thread #, row #); nothing else\n")
    site.thread site.row 0

unfoldable pub put_off : Page → Option RowAt → ℕ → Page
put_off l on begun =
    put_switched_on (put_first l (bytes_of "answer 0: not explored, by --not-exploring; ended after ") 0 begun) on

-- exploring was on throughout
unfoldable pub put_exhausted : Page → Bound → ℕ → Page
put_exhausted l unbounded begun =
    put_text (put_first l (bytes_of "answer 0: exhausted after ") 0 begun)
    (bytes_of "covered: every choice that the rules opened, of threads and of the stores that a load may read; some orders they never open (docs/COVERAGE.md, 1)\n")
put_exhausted l (at_most most) begun = put_first l (bytes_of "answer 0: exhausted within --bound # after ") most begun

-- exploring was on at the start: by the first row that switches it off
unfoldable pub put_explored : Page → Bound → Option RowAt → ℕ → Page
put_explored l bound None begun = put_exhausted l bound begun
put_explored l bound (Some site) begun =
    put_filled (put_first l (bytes_of "answer 0: exhausted in part, since the program switches exploring off, after ") 0 begun)
    (bytes_of "covered: what is varied while exploring is on; it goes off at thread #, row #, and then nothing else is tried\n")
    site.thread site.row 0

unfoldable pub put_tried : Page → List ℕ → Settings → ℕ → Page
put_tried l t settings begun =
    cond settings.exploring (put_explored l settings.bound (first_switch t false) begun)
    (put_off l (first_switch t true) begun)

-- What is left out

-- a branch with as many preemptions as the bound allows tries no other thread
unfoldable pub put_bounded : Page → Bound → Page
put_bounded l unbounded = l
put_bounded l (at_most most) =
    cond (eqb most 0)
    (put_text l (bytes_of "covered: loads alone (--bound 0): every store that each may read, in one order of the threads; no other order\n"))
    (put_filled l (bytes_of "covered: orders in which threads that could go on are made to wait at most # times (--bound #), perhaps not all\n")
    most most 0)

-- a cell keeps as many stores as it has slots; the first is its start value
unfoldable pub put_stores : Page → List ℕ → ℕ → Page
put_stores l t cell =
    cond (ltb (store_count t cell) history) l
    (put_filled l (bytes_of "not covered: # rows store to cell #, which keeps its # newest stores, the start value counted: a failure by an older one\n")
    (store_count t cell) cell history)

-- of the n cells from this one on
unfoldable pub put_old_stores : Page → List ℕ → ℕ → ℕ → Page
put_old_stores l t zero cell = l
put_old_stores l t (suc n) cell = put_old_stores (put_stores l t cell) t n (cell + 1)

unfoldable pub put_covered : Page → List ℕ → Settings → ℕ → Page
put_covered l t settings begun =
    put_old_stores (put_bounded (put_tried l t settings begun) settings.bound) t max_cells 0
