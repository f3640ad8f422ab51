-- What is wrong with a condition, in words. Places count its bytes from 0. Assumes nothing.
--     put_bad_comparison    what a comparison that begins at a place has wrong, if anything
--     put_reason           why the byte at a place cannot stand there, where that is plain
--     put_bad              the byte that cannot stand at a place
--     put_found            that byte, or what goes on behind the condition's end
--     put_bad_condition     the length, or else what was found, behind a page's end
use Rattle.std.specs.Prelude.{ℕ, ◌+◌, List, cond, ltb, leb, eqb, length, get_or, Result, Ok, Err}
use Rattle.rules.specs.Token.{bytes_of}
use Rattle.rules.specs.Table.{registers, shape_of}
use Rattle.rules.specs.Condition.{opens, comparison_bytes, condition_bytes, groups_deep, is_sign, condition_at}
use Rattle.page.specs.Pages.{Page, put_text, put_filled}
use Rattle.condition.specs.Reads.{found_in}
use Rattle.condition.specs.declared.BadByte.{BadByte}

-- its eleven bytes are there, and its second and third name a thread and a register: what of that is not so first
unfoldable pub put_bad_comparison : Page → List ℕ → ℕ → ℕ → Page
put_bad_comparison p condition at threads =
    cond (ltb (length condition) (at + comparison_bytes)) (put_text p (bytes_of ": its comparison breaks off"))
    (cond (leb threads (get_or condition (at + 1) 0))
    (put_filled p (bytes_of ": thread # is none: they count from 0, and the table has #") (get_or condition (at + 1) 0) threads 0)
    (cond (leb registers (get_or condition (at + 2) 0))
    (put_filled p (bytes_of ": register # is none") (get_or condition (at + 2) 0) 0 0)
    p))

-- the sign of a comparison, or a group that would stand too deep
unfoldable pub put_reason : Page → List ℕ → ℕ → ℕ → Page
put_reason p condition at threads =
    cond (is_sign (get_or condition at 0)) (put_bad_comparison p condition at threads)
    (cond (eqb (get_or condition at 0) opens)
    (put_filled p (bytes_of ": groups stand in each other at most # deep") groups_deep 0 0)
    p)

-- a condition may break off: then it is the place behind the last byte
unfoldable pub put_bad : Page → List ℕ → ℕ → ℕ → Page
put_bad p condition at threads =
    cond (leb (length condition) at)
    (put_filled p (bytes_of "answer 5: refused: the condition breaks off behind its last byte: it has #\n") (length condition) 0 0)
    (put_text
    (put_reason
    (put_filled p (bytes_of "answer 5: refused: the condition: byte # is #, which cannot stand there") at (get_or condition at 0) 0)
    condition at threads)
    (bytes_of "\n"))

unfoldable pub put_found : Page → List ℕ → ℕ → Result ℕ BadByte → Page
put_found p condition threads (Err bad) = put_bad p condition bad.at threads
put_found p condition threads (Ok at) =
    put_filled p (bytes_of "answer 5: refused: the condition ends before byte #, and # bytes were given\n") at (length condition) 0

-- the number of threads is the first of the table's shape
unfoldable pub put_bad_condition : Page → List ℕ → List ℕ → Page
put_bad_condition p table condition =
    cond (ltb condition_bytes (length condition))
    (put_filled p (bytes_of "answer 5: refused: the condition has # bytes: there may be up to #\n") (length condition) condition_bytes 0)
    (put_found p condition (get_or (shape_of table) 0 0)
    (found_in (length condition) (condition_at (get_or (shape_of table) 0 0) (λ t r. 0) groups_deep condition)))
