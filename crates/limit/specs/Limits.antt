-- Which answers are no verdict: a limit ended the run; and what is said of one, in words. Assumes nothing.
--     is_limit        whether an answer is one of them
--     put_reached     which limit was reached
--     put_to_do        what to do about it
--     put_spin        whether the execution went round in a loop
--     put_limit       all three, behind a page's end
use Rattle.std.specs.Prelude.{ℕ, List, Option, Some, None, Bool, cond, ◌||◌, eqb, ltb}
use Rattle.rules.specs.Token.{bytes_of}
use Rattle.rules.specs.Explored.{Settings, max_branches, max_operations, max_executions}
use Rattle.page.specs.Pages.{Page, put_text, put_filled}
use Rattle.steps.specs.Entries.{entries}
use Rattle.spin.specs.Loops.{period_of, yields_in}

-- 1, the budget of executions; 11, the branches; 12, the rows begun; 17, more than 255 preemptions
abbrev pub is_limit : ℕ → Bool
is_limit n = eqb n 1 || eqb n 11 || eqb n 12 || eqb n 17

-- the budget of executions, which no row reaches
abbrev pub put_budget : Page → ℕ → Page
put_budget l executions =
    put_filled l (bytes_of "answer 1: no verdict: the budget of executions, #, is spent, and choices are open\n") executions 0 0

-- any other, with the thread and row that reached it; what is none of 1, 11 and 12 is said to be 17
unfoldable pub put_reached : Page → Settings → ℕ → ℕ → ℕ → Page
put_reached l s number thread row =
    cond (eqb number 1) (put_budget l s.executions)
    (cond (eqb number 11)
    (put_filled l (bytes_of "answer 11: no verdict: an execution needs more branches than the limit, #, at thread #, row #\n") s.branches thread row)
    (cond (eqb number 12)
    (put_filled l (bytes_of "answer 12: no verdict: an execution needs more rows than the limit, #, at thread #, row #\n") s.operations thread row)
    (put_filled l (bytes_of "answer 17: no verdict: an order of the threads has more than # preemptions, at thread #, row #\n") 255 thread row)))

-- a setting can be raised, by its name, where it is below the most that it may be
unfoldable pub put_raise : Page → List ℕ → ℕ → ℕ → Page
put_raise l name given most =
    cond (ltb given most)
    (put_filled (put_text (put_text l (bytes_of "to do: raise ")) name) (bytes_of ", which is # and may be up to #\n") given most 0)
    (put_filled (put_text (put_text l (bytes_of "to do: make the program smaller, for ")) name) (bytes_of " is at its most, #\n") most 0 0)

-- a spent budget of executions: it can be raised, or fewer orders tried
unfoldable pub put_spent : Page → ℕ → Page
put_spent l executions =
    put_text (put_raise l (bytes_of "--executions") executions max_executions)
    (bytes_of "to do: or try fewer orders, by --bound; the verdict then says what that left out\n")

unfoldable pub put_to_do : Page → Settings → ℕ → Page
put_to_do l s number =
    cond (eqb number 1) (put_spent l s.executions)
    (cond (eqb number 11) (put_raise l (bytes_of "--branches") s.branches max_branches)
    (cond (eqb number 12) (put_raise l (bytes_of "--operations") s.operations max_operations)
    (put_filled l (bytes_of "to do: make the program smaller, or leave such orders out, and others with them, by --bound #\n") 255 0 0)))

-- the last of n steps repeat the same p rows; nothing is said where they do not
abbrev pub put_repeat : Page → List ℕ → ℕ → Option ℕ → Page
put_repeat l trace n None = l
put_repeat l trace n (Some p) =
    cond (yields_in trace n p)
    (put_filled l (bytes_of "hint: the last steps repeat the same # rows, a yield among them: do threads wait for each other?\n") p 0 0)
    (put_filled l (bytes_of "hint: the last steps repeat the same # rows: a loop that waits? `yield` in it lets the others run\n") p 0 0)

unfoldable pub put_spin : Page → List ℕ → Page
put_spin l trace = put_repeat l trace (entries trace) (period_of trace (entries trace))

unfoldable pub put_limit : Page → List ℕ → Settings → ℕ → ℕ → ℕ → Page
put_limit l trace s number thread row = put_spin (put_to_do (put_reached l s number thread row) s number) trace
