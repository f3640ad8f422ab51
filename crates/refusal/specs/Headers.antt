-- What is wrong with a header, or with a table's length, in words. Assumes nothing.
--     bad_count      the first thread whose row count is wrong
--     put_header     what is wrong first, in the order of the bytes, in one line
use Rattle.std.specs.Prelude.{ℕ, ◌+◌, List, Option, Some, None, Bool, cond, not, ◌&&◌, ltb, leb, length, get_or}
use Rattle.rules.specs.Token.{bytes_of}
use Rattle.rules.specs.Table.{max_threads, max_cells, max_plains, max_rows, header_bytes, threads_of, cells_of, plains_of, values_of, counts_of, count_fine, total, size_of, first_not}
use Rattle.page.specs.Pages.{Page, put_text, put_filled}

-- "threads 1..5, cells 1..4"
unfoldable pub is_count : ℕ → ℕ → Bool
is_count n most = leb 1 n && leb n most

-- a number below this one
abbrev pub one_below : ℕ → ℕ → Option ℕ
one_below n i = cond (ltb i n) (Some i) None

-- "five row counts .. (0 past the thread count)", from byte 2 on: the first that is wrong
unfoldable pub bad_count : List ℕ → ℕ → Option ℕ
bad_count t threads = one_below max_threads (first_not (λ (i : ℕ). count_fine threads i (get_or t (2 + i) 0)) max_threads 0)

-- a thread with too many rows, or one past the threads with any
unfoldable pub put_rows : Page → ℕ → ℕ → ℕ → Page
put_rows l threads thread count =
    let said = put_filled l (bytes_of "answer 5: refused: byte # says that thread # has # rows") (2 + thread) thread count in
    cond (ltb thread threads)
    (put_filled said (bytes_of ": there may be 0 to #\n") max_rows 0 0)
    (put_text said (bytes_of ", and there is no such thread: it must be 0\n"))

-- behind the cell count: a row count, the plain cells, or else the length
abbrev pub put_after_cells : Page → List ℕ → ℕ → Option ℕ → Page
put_after_cells l t threads (Some thread) = put_rows l threads thread (get_or t (2 + thread) 0)
put_after_cells l t threads None =
    cond (ltb max_plains (plains_of t))
    (put_filled l (bytes_of "answer 5: refused: byte # says # plain cells: there may be 0 to #\n") 7 (plains_of t) max_plains)
    (put_filled l (bytes_of "answer 5: refused: the table should have # bytes and has #\n")
    (size_of (values_of t) (total (counts_of t))) (length t) 0)

unfoldable pub put_behind : Page → List ℕ → ℕ → Page
put_behind l t threads = put_after_cells l t threads (bad_count t threads)

unfoldable pub put_header : Page → List ℕ → Page
put_header l t =
    cond (ltb (length t) header_bytes)
    (put_filled l (bytes_of "answer 5: refused: the table has # bytes, and its header alone has #\n") (length t) header_bytes 0)
    (cond (not (is_count (threads_of t) max_threads))
    (put_filled l (bytes_of "answer 5: refused: byte # says # threads: there may be 1 to #\n") 0 (threads_of t) max_threads)
    (cond (not (is_count (cells_of t) max_cells))
    (put_filled l (bytes_of "answer 5: refused: byte # says # cells: there may be 1 to #\n") 1 (cells_of t) max_cells)
    (put_behind l t (threads_of t))))
