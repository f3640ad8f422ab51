-- The threads of a written text are read back into the table's bytes. Assumes nothing.
--     made                  what has been read: so many threads and counts, and the table's bytes up to a row
--     line_at, row_made     a row of a thread: its line, and what is made with it
--     rows-read             a thread's rows
--     threads-read          all threads
use Prim.Native.Nat.{ℕ, zero, suc, ◌+◌, ◌-◌, ◌*◌, ◌≤◌, ◌<◌}
use mathlib.Core.List.{List, ◌∷◌, ◌++◌, append_assoc}
use mathlib.Core.Path.{◌≡◌, ap, sym, subst, ◌∙◌}
use native.Mathlib.Omega.{arith}
use native.Mathlib.Numerals.{add-one}
use lib.ListN.{length, get_or, set, take, drop, length-append, length-take, length-drop}
use Rattle.rules.specs.ConditionTree.{AllBytes}
use Rattle.rules.specs.Table.{max_rows, threads_of, cells_of, plains_of, values_of, counts_of, size_of, total, first_rows, Room, room_of, Row, row_at}
use Rattle.rules.specs.Form.{fields_as_bytes}
use Rattle.rules.specs.Token.{bytes_of, line_feed}
use Rattle.rules.specs.Text.{Draft, with_row, with_thread, TextRead, lines_from}
use Rattle.rules.specs.Writer.{fields_of, row_shown, rows_shown, threads_shown}
use Rattle.returns.proofs.RowBack.{Small, row-known}
use Rattle.returns.proofs.ByteLaws.{parts, row-bytes}
use Rattle.returns.proofs.RowLine.{PlainLine, RowLine, small_row, row_line}
use Rattle.returns.proofs.TableLaws.{Fine, There, row-there, thread-rows}
use Rattle.returns.proofs.CountLaws.{so_far, so-at, so-more, so-next, so-end, count-few, total-next, total-end, first-at}
use Rattle.returns.proofs.LineLaws.{on-goes, row_step, thread-step}
use Rattle.returns.proofs.AheadLaws.{Ending, PlainRows, rows_in, thread-text, thread-long, stops-there, rows-ahead}

module _ (t : List ℕ) (bytes : AllBytes t) (fine : Fine t) where
  abbrev counts : List ℕ
  counts = counts_of t

  -- the rows before thread k
  abbrev before : ℕ → ℕ
  before k = total (take k counts)

  abbrev pub made : ℕ → List ℕ → ℕ → Draft
  made threads sofar rows = record { cells = cells_of t; plains = plains_of t; threads = threads; counts = sofar; body = take (8 * values_of t + 24 * rows) (drop 8 t) }

  pub counts-five : length (counts_of t) ≡ 5
  unfolding counts_of
  counts-five = simp (length-take, length-drop) (let l = fine.header.long in omega arith)

  -- A row

  there-at : (k i : ℕ) → k < 5 → i < get_or counts k 0 → There t (get_or counts k 0) i (before k + i)
  there-at k i h l =
      let e : 0 + before k + i ≡ before k + i = omega arith in
      row-there t (get_or counts k 0) i (before k + i)
      (rw e at (thread-rows t 0 counts fine.rows k (omega (arith, counts-five)) i l))

  abbrev room_in : ℕ → ℕ → Room
  room_in k i = room_of t (get_or counts k 0) i

  line_at : (k i : ℕ) → k < 5 → i < get_or counts k 0 → RowLine (room_in k i) (fields_of (row_at t (values_of t) (before k + i))) (row_shown (row_at t (values_of t) (before k + i)))
  line_at k i h l =
      let r = there-at k i h l in
      let row = row_at t (values_of t) (before k + i) in
      let small : Small (fields_of row) = subst (λ (x : Row). Small (fields_of x)) (sym r.is) (small_row t bytes (size_of (values_of t) (before k + i))) in
      row_line (room_in k i) row (row-known (room_in k i) row fine.header.plains-few small r.fine)

  -- the rows so far of thread k
  so-far : (k j : ℕ) → k < 5 → get_or (so_far counts k j) (k + 1 - 1) 0 ≡ j
  so-far k j h = let e : k + 1 - 1 ≡ k = omega arith in rw e (so-at counts k j (omega (arith, counts-five)))

  row_made : (k j : ℕ) → k < 5 → j < get_or counts k 0 →
      with_row (made (k + 1) (so_far counts k j) (before k + j)) (fields_of (row_at t (values_of t) (before k + j))) ≡ made (k + 1) (so_far counts k (j + 1)) (before k + j + 1)
  row_made k j h l =
      let r = there-at k j h l in
      let n = 8 * values_of t + 24 * (before k + j) in
      let e : k + 1 - 1 ≡ k = omega arith in
      let f : 8 + n ≡ size_of (values_of t) (before k + j) = omega arith in
      let g : n + 24 ≡ 8 * values_of t + 24 * (before k + j + 1) = omega arith in
      let rowed : fields_as_bytes (fields_of (row_at t (values_of t) (before k + j))) ≡ take 24 (drop (8 + n) t) =
      ap (λ (x : Row). fields_as_bytes (fields_of x)) r.is ∙ row-bytes t bytes (size_of (values_of t) (before k + j)) r.within ∙ ap (λ (x : ℕ). take 24 (drop x t)) (sym f) in
      let more : set (so_far counts k j) (k + 1 - 1) (get_or (so_far counts k j) (k + 1 - 1) 0 + 1) ≡ so_far counts k (j + 1) =
      rw (so-far k j h, e) (so-more counts k j (j + 1)) in
      let body : take n (drop 8 t) ++ fields_as_bytes (fields_of (row_at t (values_of t) (before k + j))) ≡ take (8 * values_of t + 24 * (before k + j + 1)) (drop 8 t) =
      ap (λ (x : List ℕ). take n (drop 8 t) ++ x) rowed ∙ sym (parts t bytes n 24 8) ∙ ap (λ (x : ℕ). take x (drop 8 t)) g in
      λ i. record { cells = cells_of t; plains = plains_of t; threads = k + 1; counts = more i; body = body i }

  few-rows : (k j : ℕ) → k < 5 → j < get_or counts k 0 → get_or (so_far counts k j) (k + 1 - 1) 0 < max_rows
  few-rows k j h l = rw (so-far k j h) (omega (arith, count-few (threads_of t) 0 counts fine.header.counts k))

  -- one row of thread k, in a text of so many lines
  row_on : (lines n k j : ℕ) (rest : List ℕ) → k < 5 → j < get_or counts k 0 →
      lines_from (suc n) lines (threads_of t) (get_or counts k 0) (made (k + 1) (so_far counts k j) (before k + j)) (row_shown (row_at t (values_of t) (before k + j)) ++ rest)
      ≡ lines_from n lines (threads_of t) (get_or counts k 0) (made (k + 1) (so_far counts k (j + 1)) (before k + j + 1)) rest
  row_on lines n k j rest h l =
      let row = row_at t (values_of t) (before k + j) in
      let m = made (k + 1) (so_far counts k j) (before k + j) in
      on-goes n lines (threads_of t) (get_or counts k 0) m (row_shown row ++ rest) (get_or counts k 0) (with_row m (fields_of row)) rest
      (row_step lines (threads_of t) (get_or counts k 0) m (fields_of row) (row_shown row) rest
      (subst (λ (x : ℕ). RowLine (room_in k x) (fields_of row) (row_shown row)) (sym (so-far k j h)) (line_at k j h l)) fine.header.cells-some (omega arith) (few-rows k j h l))
      ∙ ap (λ (x : Draft). lines_from n lines (threads_of t) (get_or counts k 0) x rest) (row_made k j h l)

  module _ (lines : ℕ) (answer : TextRead) (rest : List ℕ) where
    -- a thread's last q rows, behind which the lines go on to the answer
    rows-read : (k j q n : ℕ) → k < 5 → j + q ≡ get_or counts k 0 →
        ((m : ℕ) → m ≤ n → length rest < m →
        lines_from m lines (threads_of t) (get_or counts k 0) (made (k + 1) (so_far counts k (get_or counts k 0)) (before k + get_or counts k 0)) rest ≡ answer) →
        length (rows_shown t q (before k + j) ++ rest) < n →
        lines_from n lines (threads_of t) (get_or counts k 0) (made (k + 1) (so_far counts k j) (before k + j)) (rows_shown t q (before k + j) ++ rest) ≡ answer
    unfolding rows_shown
    rows-read k j zero n h e then l =
        let f : j ≡ get_or counts k 0 = omega arith in
        ap (λ (x : ℕ). lines_from n lines (threads_of t) (get_or counts k 0) (made (k + 1) (so_far counts k x) (before k + x)) rest) f ∙ then n (omega arith) l
    rows-read k j (suc q) zero h e then l = absurd (omega arith)
    rows-read k j (suc q) (suc n) h e then l =
        let line = row_shown (row_at t (values_of t) (before k + j)) in
        let more = rows_shown t q (before k + j + 1) ++ rest in
        let a = append_assoc line (rows_shown t q (before k + j + 1)) rest in
        let b : before k + j + 1 ≡ before k + (j + 1) = omega arith in
        let some = (line_at k j h (omega arith)).plain.long in
        let left : length more < n = omega (arith, ap length a, length-append line more) in
        ap (lines_from (suc n) lines (threads_of t) (get_or counts k 0) (made (k + 1) (so_far counts k j) (before k + j))) a
        ∙ row_on lines n k j more h (omega arith)
        ∙ ap (λ (x : ℕ). lines_from n lines (threads_of t) (get_or counts k 0) (made (k + 1) (so_far counts k (j + 1)) x) (rows_shown t q x ++ rest)) b
        ∙ rows-read k (j + 1) q n h (omega arith) (λ x y z. then x (omega arith) z) (subst (λ (x : ℕ). length (rows_shown t q x ++ rest) < n) b left)

  -- All threads

  first-is : (k : ℕ) → k < 5 → get_or (first_rows 0 counts) k 0 ≡ before k
  first-is k h = first-at 0 counts k (omega (arith, counts-five)) ∙ (omega arith)

  pub plain_rows : (k : ℕ) → k < 5 → PlainRows t (get_or counts k 0) (get_or (first_rows 0 counts) k 0)
  plain_rows k h d l =
      subst (λ (x : ℕ). PlainLine (row_shown (row_at t (values_of t) (x + d)))) (sym (first-is k h)) (line_at k d h l).plain

  made-next : (k : ℕ) → made (k + 1) (so_far counts k (get_or counts k 0)) (before k + get_or counts k 0) ≡ made (k + 1) (so_far counts (k + 1) 0) (before (k + 1))
  made-next k =
      let e : so_far counts k (get_or counts k 0) ≡ so_far counts (k + 1) 0 = so-next counts k ∙ ap (λ (x : ℕ). so_far counts x 0) (sym (add-one k)) in
      let f : before k + get_or counts k 0 ≡ before (k + 1) = sym (total-next counts k) ∙ ap before (sym (add-one k)) in
      λ i. made (k + 1) (e i) (f i)

  made_all : made (threads_of t) (so_far counts (threads_of t) 0) (before (threads_of t)) ≡ made (threads_of t) counts (total counts)
  made_all = λ i. made (threads_of t)
      (so-end (threads_of t) 0 (threads_of t) counts (omega arith) fine.header.counts i)
      (total-end (threads_of t) 0 (threads_of t) counts (omega arith) fine.header.counts i)

  module _ (lines : ℕ) (answer : TextRead) (rest : List ℕ) (ending : Ending rest)
      (finish : (m rows : ℕ) → m ≤ lines → length rest < m → lines_from m lines (threads_of t) rows (made (threads_of t) counts (total counts)) rest ≡ answer) where
    -- the thread's line
    thread-on : (q k n rows : ℕ) → k < threads_of t → suc n ≤ lines → length (rows_in t k ++ (threads_shown t q (k + 1) ++ rest)) < n →
        lines_from (suc n) lines (threads_of t) rows (made k (so_far counts k 0) (before k)) (bytes_of "thread" ++ (line_feed ∷ (rows_in t k ++ (threads_shown t q (k + 1) ++ rest))))
        ≡ lines_from n lines (threads_of t) (get_or counts k 0) (made (k + 1) (so_far counts k 0) (before k)) (rows_in t k ++ (threads_shown t q (k + 1) ++ rest))
    thread-on q k n rows h few l =
        let five = fine.header.threads-few in
        let more = threads_shown t q (k + 1) ++ rest in
        let m = made k (so_far counts k 0) (before k) in
        on-goes n lines (threads_of t) rows m (bytes_of "thread" ++ (line_feed ∷ (rows_in t k ++ more))) (get_or counts k 0) (with_thread m) (rows_in t k ++ more)
        (thread-step lines (threads_of t) rows m (rows_in t k ++ more) (get_or counts k 0) fine.header.cells-some (omega arith)
        (rows-ahead t (get_or counts k 0) (get_or (first_rows 0 counts) k 0) lines more (plain_rows k (omega arith)) (stops-there t rest ending q (k + 1)) (omega arith)))

    pub threads-read : (q k n rows : ℕ) → k + q ≡ threads_of t → n ≤ lines → length (threads_shown t q k ++ rest) < n →
        lines_from n lines (threads_of t) rows (made k (so_far counts k 0) (before k)) (threads_shown t q k ++ rest) ≡ answer
    unfolding threads_shown
    threads-read zero k n rows e few l =
        let f : k ≡ threads_of t = omega arith in
        ap (λ (x : ℕ). lines_from n lines (threads_of t) rows (made x (so_far counts x 0) (before x)) rest) f
        ∙ ap (λ (x : Draft). lines_from n lines (threads_of t) rows x rest) made_all
        ∙ finish n rows few l
    threads-read (suc q) k zero rows e few l = absurd (omega arith)
    threads-read (suc q) k (suc n) rows e few l =
        let five = fine.header.threads-few in
        let more = threads_shown t q (k + 1) ++ rest in
        let a = thread-text t q k rest in
        let z : before k ≡ before k + 0 = omega arith in
        let f : get_or (first_rows 0 counts) k 0 ≡ before k + 0 = first-is k (omega arith) ∙ z in
        let left : length (rows_in t k ++ more) < n = omega (arith, ap length a, thread-long (rows_in t k ++ more)) in
        ap (lines_from (suc n) lines (threads_of t) rows (made k (so_far counts k 0) (before k))) a
        ∙ thread-on q k n rows (omega arith) few left
        ∙ (λ i. lines_from n lines (threads_of t) (get_or counts k 0) (made (k + 1) (so_far counts k 0) (z i)) (rows_shown t (get_or counts k 0) (f i) ++ more))
        ∙ rows-read lines answer more k 0 (get_or counts k 0) n (omega arith) (omega arith)
        (λ m g p. ap (λ (x : Draft). lines_from m lines (threads_of t) (get_or counts k 0) x more) (made-next k) ∙ threads-read q (k + 1) m (get_or counts k 0) (omega arith) (omega arith) p)
        (subst (λ (x : ℕ). length (rows_shown t (get_or counts k 0) x ++ more) < n) f left)
