-- The verdict on a run, in words, by the definition's report. Assumes nothing.
--     put_passed      nothing failed
--     put_refused     what is wrong with what was given
--     put_wanted      what a check wants, and what its register holds
--     put_check       a check that failed
--     put_failed      what else stops a run where it goes wrong
--     put_verdict     by the answer's number
use Rattle.std.specs.Prelude.{ℕ, ◌%◌, List, cond, eqb, length}
use Rattle.rules.specs.Token.{bytes_of}
use Rattle.rules.specs.Explored.{Settings, Report, is_refusal}
use Rattle.rules.specs.Table.{Op, Decoded, refused, decoded, load, store, store_register, rmw, fence, unsync_load, with_mut, yield, join, jump, jump_if, jump_unless, check, critical, explore_state, skip_branch, spurious, plain_read, plain_write}
use Rattle.page.specs.Pages.{Page, put_text, put_filled}
use Rattle.steps.specs.Entries.{entries, row_says}
use Rattle.steps.specs.Holds.{held, held_after, register}
use Rattle.coverage.specs.Says.{put_covered}
use Rattle.refusal.specs.Refusals.{put_refusal}
use Rattle.race.specs.Races.{put_race}
use Rattle.limit.specs.Limits.{is_limit, put_limit}
use Rattle.finally.specs.Finals.{put_finally}

-- what was covered, and that the final condition was true, where there is one
unfoldable pub put_passed : Page → List ℕ → List ℕ → Settings → ℕ → Page
put_passed p table condition s begun =
    cond (eqb (length condition) 0) (put_covered p table s begun)
    (put_text (put_covered p table s begun) (bytes_of "the final condition was true at the end of every execution\n"))

-- the settings, a buffer's length, or else the table or the condition
unfoldable pub put_refused : Page → List ℕ → List ℕ → ℕ → ℕ → ℕ → Page
put_refused p table condition number thread row =
    cond (eqb number 2) (put_text p (bytes_of "answer 2: refused: the settings are out of range\n"))
    (cond (eqb number 3) (put_text p (bytes_of "answer 3: refused: the path buffer has the wrong length\n"))
    (cond (eqb number 4) (put_text p (bytes_of "answer 4: refused: the trace buffer has the wrong length\n"))
    (put_refusal p table condition thread row)))

-- what a check wants of its register, and what that holds; nothing of another row
unfoldable pub put_wants : Page → (ℕ → ℕ) → Decoded Op → Page
put_wants p holds refused = p
put_wants p holds (decoded (load c o r)) = p
put_wants p holds (decoded (store c o a)) = p
put_wants p holds (decoded (store_register c o r)) = p
put_wants p holds (decoded (rmw c o f change r)) = p
put_wants p holds (decoded (fence o)) = p
put_wants p holds (decoded (unsync_load c r)) = p
put_wants p holds (decoded (with_mut c change r)) = p
put_wants p holds (decoded yield) = p
put_wants p holds (decoded (join thread)) = p
put_wants p holds (decoded (jump target)) = p
put_wants p holds (decoded (jump_if r a target)) = p
put_wants p holds (decoded (jump_unless r a target)) = p
put_wants p holds (decoded (check r a)) = put_filled p (bytes_of ": r# should be # and is #") r a (holds r)
put_wants p holds (decoded critical) = p
put_wants p holds (decoded explore_state) = p
put_wants p holds (decoded skip_branch) = p
put_wants p holds (decoded (spurious r)) = p
put_wants p holds (decoded (plain_read c r)) = p
put_wants p holds (decoded (plain_write c a)) = p

-- what the registers hold at the end of the last execution
abbrev pub holds_at_end : List ℕ → List ℕ → ℕ → ℕ → ℕ
holds_at_end table trace thread r = held (held_after table trace (entries trace)) (register thread r)

abbrev pub put_wanted : Page → List ℕ → List ℕ → ℕ → ℕ → Page
put_wanted p table trace thread row = put_wants p (holds_at_end table trace thread) (row_says table thread row)

-- a thread and a row of a table are below 256
abbrev pub put_check : Page → List ℕ → List ℕ → ℕ → ℕ → Page
put_check p table trace thread row =
    put_text (put_wanted (put_filled p (bytes_of "answer 15: failed: the check at thread #, row #") thread row 0) table trace (thread % 256) (row % 256))
    (bytes_of "\n")

unfoldable pub put_failed : Page → ℕ → ℕ → ℕ → Page
put_failed p number thread row =
    cond (eqb number 10) (put_text p (bytes_of "answer 10: failed: deadlock: no thread can run, and not every thread has ended\n"))
    (cond (eqb number 13)
    (put_filled p (bytes_of "answer 13: failed: two stores that a load may read have no order between them, at thread #, row #\n") thread row 0)
    (cond (eqb number 16)
    (put_filled p (bytes_of "answer 16: failed: `critical` while exploring is off, or `explore_state` while it is on, at thread #, row #\n") thread row 0)
    (put_filled p (bytes_of "answer #: stopped by a mistake of the explorer itself, at thread #, row #: please report it\n") number thread row)))

-- no verdict, refused, 0 where nothing failed, 14 a race, 15 a check, 18 the final condition
unfoldable pub put_verdict : Page → List ℕ → List ℕ → List ℕ → Settings → Report → Page
put_verdict p table condition trace s r =
    cond (is_limit r.answer) (put_limit p trace s r.answer r.thread r.row)
    (cond (is_refusal r.answer) (put_refused p table condition r.answer r.thread r.row)
    (cond (eqb r.answer 0) (put_passed p table condition s r.begun)
    (cond (eqb r.answer 14) (put_race p table trace r.thread r.row r.kind r.other)
    (cond (eqb r.answer 15) (put_check p table trace r.thread r.row)
    (cond (eqb r.answer 18) (put_finally p table condition trace)
    (put_failed p r.answer r.thread r.row))))))
