-- The rows and threads that lie ahead in a written text are those of the table. Assumes nothing.
--     Ending, ending-stops       where the threads end
--     past-line, past-thread     past a line
--     rows-ahead, threads-ahead  of a thread, of the whole table
use Prim.Native.Nat.{ℕ, zero, suc, ◌+◌, ◌<◌}
use mathlib.Core.List.{List, ◌∷◌, ◌++◌, append_assoc}
use mathlib.Core.Bool.{Bool, true, false, ◌||◌, or-true}
use mathlib.Core.Path.{◌≡◌, refl, ap, ◌∙◌}
use native.Mathlib.Omega.{arith}
use lib.Dec.{eqb-suc-zero}
use lib.ListN.{length, get_or, length-append}
use Rattle.rules.specs.Vector.{equal}
use Rattle.rules.specs.Table.{values_of, counts_of, first_rows, row_at}
use Rattle.rules.specs.Token.{bytes_of, line_feed, run_length, token_length, line_length, ends_line, is_empty, past_blanks}
use Rattle.rules.specs.Text.{says, rows_ahead, threads_ahead}
use Rattle.rules.specs.Writer.{row_shown, rows_shown, threads_shown}
use Rattle.returns.proofs.RowLine.{PlainLine}

-- Where the threads end: at the text's end, or at `finally`
abbrev pub Ending : List ℕ → Type 0
Ending rest = (is_empty (past_blanks rest) || says "finally" rest) ≡ true

-- and a thread's rows: there, or at the next thread
abbrev pub Stops : List ℕ → Type 0
Stops rest = (is_empty (past_blanks rest) || says "thread" rest || says "finally" rest) ≡ true

pub ending-stops : (rest : List ℕ) → Ending rest → Stops rest
ending-stops rest e = by (is_empty (past_blanks rest)) (says "thread" rest) (says "finally" rest) e
  where
    by : (x y z : Bool) → (x || z) ≡ true → (x || y || z) ≡ true
    by true y z h = refl
    by false true z h = refl
    by false false z h = h

pub thread-stops : (rest : List ℕ) → Stops (bytes_of "thread" ++ (line_feed ∷ rest))
unfolding bytes_of run_length token_length ends_line equal
thread-stops rest = rw or-true refl

-- A thread's rows

pub rows-stop : (n : ℕ) (rest : List ℕ) → Stops rest → rows_ahead n rest ≡ 0
unfolding rows_ahead
rows-stop zero rest h = refl
rows-stop (suc n) rest h = rw (rows_ahead, h) refl

ahead-row : (n : ℕ) (line rest : List ℕ) → PlainLine line → rows_ahead (suc n) (line ++ rest) ≡ suc (rows_ahead n rest)
unfolding rows_ahead
ahead-row n line rest p =
    let e : (is_empty (past_blanks (line ++ rest)) || says "thread" (line ++ rest) || says "finally" (line ++ rest)) ≡ false =
    rw (p.some rest, p.no_thread rest, p.no_finally rest) refl in
    rw (rows_ahead, e, p.full rest, p.next rest) (omega arith)

-- the n rows from this one on are written as plain lines
abbrev pub PlainRows : List ℕ → ℕ → ℕ → Type 0
PlainRows t n i = (d : ℕ) → d < n → PlainLine (row_shown (row_at t (values_of t) (i + d)))

rows-later : (t : List ℕ) (n i : ℕ) → PlainRows t (suc n) i → PlainRows t n (i + 1)
rows-later t n i h d l =
    let e : i + 1 + d ≡ i + suc d = omega arith in
    rw e (h (suc d) (omega arith))

rows-first : (t : List ℕ) (n i : ℕ) → PlainRows t (suc n) i → PlainLine (row_shown (row_at t (values_of t) i))
rows-first t n i h = let e : i + 0 ≡ i = omega arith in rw e at (h 0 (omega arith))

pub rows-ahead : (t : List ℕ) (q i n : ℕ) (rest : List ℕ) → PlainRows t q i → Stops rest → length (rows_shown t q i ++ rest) < n →
    rows_ahead n (rows_shown t q i ++ rest) ≡ q
unfolding rows_shown
rows-ahead t zero i n rest h s l = rows-stop n rest s
rows-ahead t (suc q) i zero rest h s l = absurd (omega arith)
rows-ahead t (suc q) i (suc n) rest h s l =
    let line = row_shown (row_at t (values_of t) i) in
    let p = rows-first t q i h in
    let e = append_assoc line (rows_shown t q (i + 1)) rest in
    let k = p.long in
    ap (rows_ahead (suc n)) e
    ∙ ahead-row n line (rows_shown t q (i + 1) ++ rest) p
    ∙ ap suc (rows-ahead t q (i + 1) n rest (rows-later t q i h) s (omega (arith, ap length e, length-append line (rows_shown t q (i + 1) ++ rest))))

-- All threads

pub threads-stop : (n : ℕ) (rest : List ℕ) → Ending rest → threads_ahead n rest ≡ 0
unfolding threads_ahead
threads-stop zero rest h = refl
threads-stop (suc n) rest h = rw (threads_ahead, h) refl

pub past-line : (n : ℕ) (line rest : List ℕ) → PlainLine line → threads_ahead (suc n) (line ++ rest) ≡ threads_ahead n rest
unfolding threads_ahead
past-line n line rest p =
    let e : (is_empty (past_blanks (line ++ rest)) || says "finally" (line ++ rest)) ≡ false = rw (p.some rest, p.no_finally rest) refl in
    rw (threads_ahead, e, p.no_thread rest, p.next rest) (omega arith)

past-thread : (n : ℕ) (rest : List ℕ) → threads_ahead (suc n) (bytes_of "thread" ++ (line_feed ∷ rest)) ≡ suc (threads_ahead n rest)
unfolding threads_ahead bytes_of run_length token_length ends_line line_length equal
past-thread n rest = rw (threads_ahead, eqb-suc-zero) (omega arith)

past-rows : (t : List ℕ) (q i n : ℕ) (rest : List ℕ) (k : ℕ) → PlainRows t q i → ((m : ℕ) → length rest < m → threads_ahead m rest ≡ k) →
    length (rows_shown t q i ++ rest) < n → threads_ahead n (rows_shown t q i ++ rest) ≡ k
unfolding rows_shown
past-rows t zero i n rest k h then l = then n l
past-rows t (suc q) i zero rest k h then l = absurd (omega arith)
past-rows t (suc q) i (suc n) rest k h then l =
    let line = row_shown (row_at t (values_of t) i) in
    let p = rows-first t q i h in
    let e = append_assoc line (rows_shown t q (i + 1)) rest in
    let g = p.long in
    ap (threads_ahead (suc n)) e
    ∙ past-line n line (rows_shown t q (i + 1) ++ rest) p
    ∙ past-rows t q (i + 1) n rest k (rows-later t q i h) then (omega (arith, ap length e, length-append line (rows_shown t q (i + 1) ++ rest)))

-- a thread's rows as they are written, and what follows it
abbrev pub rows_in : List ℕ → ℕ → List ℕ
rows_in t k = rows_shown t (get_or (counts_of t) k 0) (get_or (first_rows 0 (counts_of t)) k 0)

pub thread-text : (t : List ℕ) (q k : ℕ) (rest : List ℕ) →
    threads_shown t (suc q) k ++ rest ≡ bytes_of "thread" ++ (line_feed ∷ (rows_in t k ++ (threads_shown t q (k + 1) ++ rest)))
unfolding threads_shown
thread-text t q k rest =
    append_assoc (bytes_of "thread") (line_feed ∷ (rows_in t k ++ threads_shown t q (k + 1))) rest
    ∙ ap (λ (l : List ℕ). bytes_of "thread" ++ (line_feed ∷ l)) (append_assoc (rows_in t k) (threads_shown t q (k + 1)) rest)

pub thread-long : (rest : List ℕ) → length (bytes_of "thread" ++ (line_feed ∷ rest)) ≡ 7 + length rest
unfolding bytes_of
thread-long rest = omega arith

module _ (t : List ℕ) (rest : List ℕ) (ending : Ending rest) where
  -- what follows a thread's rows
  pub stops-there : (q k : ℕ) → Stops (threads_shown t q k ++ rest)
  unfolding threads_shown
  stops-there zero k = ending-stops rest ending
  stops-there (suc q) k = rw (thread-text t q k rest) (thread-stops (rows_in t k ++ (threads_shown t q (k + 1) ++ rest)))

  pub threads-ahead : (q k n : ℕ) → ((j : ℕ) → j < k + q → PlainRows t (get_or (counts_of t) j 0) (get_or (first_rows 0 (counts_of t)) j 0)) →
      length (threads_shown t q k ++ rest) < n → threads_ahead n (threads_shown t q k ++ rest) ≡ q
  unfolding threads_shown
  threads-ahead zero k n h l = threads-stop n rest ending
  threads-ahead (suc q) k zero h l = absurd (omega arith)
  threads-ahead (suc q) k (suc n) h l =
      let more = threads_shown t q (k + 1) ++ rest in
      let e = thread-text t q k rest in
      ap (threads_ahead (suc n)) e
      ∙ past-thread n (rows_in t k ++ more)
      ∙ ap suc
      (past-rows t (get_or (counts_of t) k 0) (get_or (first_rows 0 (counts_of t)) k 0) n more q (h k (omega arith))
      (λ m g. threads-ahead q (k + 1) m (λ j i. h j (omega arith)) g)
      (omega (arith, ap length e, thread-long (rows_in t k ++ more))))
