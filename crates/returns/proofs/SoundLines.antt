-- Every line of a text keeps what a table must have; where the lines end, there is one. Assumes nothing.
--     Ahead          the threads and rows that were read, with those that lie ahead, are all
--     After          how a line comes out
--     line_after     every line
use Prim.Native.Nat.{ℕ, zero, suc, ◌+◌, ◌-◌, ◌≤◌, ◌<◌}
use mathlib.Core.List.{List, []}
use mathlib.Core.Bool.{Bool, true, false, cond, ◌&&◌, or-true}
use mathlib.Core.Path.{◌≡◌, refl, ap, sym, subst, ◌∙◌}
use native.Mathlib.Omega.{arith}
use lib.Dec.{ltb, leb, eqb}
use lib.ListN.{length, get_or, set}
use lib.Seq.{get_or-set_same}
use borrow.Author.Tests.{eqb-true, eqb-false, leb-true, leb-false, ltb-true}
use Rattle.rules.specs.Vector.{equal}
use Rattle.rules.specs.Table.{max_rows, judged, good}
use Rattle.rules.specs.ConditionTree.{AllBytes}
use Rattle.rules.specs.Token.{bytes_of, token_length, is_empty, past_blanks, token, past_token, next_line, Found, nothing, found, number_in}
use Rattle.rules.specs.Form.{Followed, stuck, fits, row_in}
use Rattle.rules.specs.Text.{Draft, with_cell, with_plain, rows_so_far, table_of, says, is_bare, rows_ahead, threads_ahead, Line, goes_on, refused_line, ended, concludes, bare_then, values_line, first_line, is_plain_line, plain_line, row_line, aRow, aThread, the_condition, the_end, line_of}
use Rattle.rules.proofs.VectorLaws.{equal-true}
use Rattle.rules.proofs.MeasureRows.{pick, both_left, both_right}
use Rattle.returns.proofs.RowLine.{Other}
use Rattle.returns.proofs.LineLaws.{room_for}
use Rattle.returns.proofs.NextLaws.{next-skip, next_past, line-shorter, rows_end, threads_end, rows-line, threads-line}
use Rattle.returns.proofs.AheadLaws.{ending-stops, rows-stop, threads-stop}
use Rattle.returns.proofs.RowRead.{row_read}
use Rattle.returns.proofs.MadeLaws.{Kept, kept-bytes, kept_table}
use Rattle.returns.proofs.KeptLaws.{kept-cell, kept-plain, kept_any, kept-thread, kept_row}

-- The first word of a line

bare-token : (bs : List ℕ) → is_bare bs ≡ true → token (past_blanks bs) ≡ []
unfolding token_length
bare-token bs e = rw e refl

bare-silent : (bs : List ℕ) → is_bare bs ≡ true → (says "thread" bs ≡ false) × (says "finally" bs ≡ false)
unfolding bytes_of equal
bare-silent bs e = rw (bare-token bs e) (refl, refl)

-- one that says another word than these
word-silent : (w bs : List ℕ) → Other w → equal (token (past_blanks bs)) w ≡ true → (says "thread" bs ≡ false) × (says "finally" bs ≡ false)
word-silent w bs o e = rw (equal-true (token (past_blanks bs)) w e) o

cells-silent : (bs : List ℕ) → says "cells" bs ≡ true → (says "thread" bs ≡ false) × (says "finally" bs ≡ false)
unfolding bytes_of equal
cells-silent bs e = word-silent (bytes_of "cells") bs (refl, refl) e

plain-silent : (bs : List ℕ) → says "plain" bs ≡ true → (says "thread" bs ≡ false) × (says "finally" bs ≡ false)
unfolding bytes_of equal
plain-silent bs e = word-silent (bytes_of "plain") bs (refl, refl) e

-- Start values

module _ (all_threads : ℕ) where
  -- a line of start values comes out so, and the next line is the one behind these bytes
  abbrev OfValues : List ℕ → Line → Type 0
  OfValues bs (goes_on more m rest) = Kept all_threads more m × (m.threads ≡ 0) × (rest ≡ next_line bs)
  OfValues bs (refused_line rest) = Unit {0}
  OfValues bs (ended m) = ⊥
  OfValues bs (concludes m rest) = ⊥

  bare-values : (m : Draft) (bs : List ℕ) → Kept all_threads 0 m → m.threads ≡ 0 → OfValues bs (bare_then 0 m bs)
  bare-values m bs h z = pick (OfValues bs) (is_bare bs) (λ e. (h, z, next-skip bs)) (λ e. tt)

  behind-value : (bs : List ℕ) (line : Line) → OfValues (past_token (past_blanks bs)) line → OfValues bs line
  behind-value bs (goes_on more m rest) h = (h.0, h.1, h.2 ∙ next_past (past_blanks bs) ∙ next-skip bs)
  behind-value bs (refused_line rest) h = tt
  behind-value bs (ended m) h = h
  behind-value bs (concludes m rest) h = h

  -- what one value more keeps
  record Grows (more : Draft → ℕ → Draft) (many : Draft → ℕ) : Type 0 where
    kept : (v : ℕ) (m : Draft) → Kept all_threads 0 m → m.threads ≡ 0 → many m < 4 → Kept all_threads 0 (more m v)
    threads : (v : ℕ) (m : Draft) → (more m v).threads ≡ m.threads
    counted : (v : ℕ) (m : Draft) → many (more m v) ≡ many m + 1

  cells-grow : Grows with_cell (λ (m : Draft). m.cells)
  cells-grow = record { kept = λ v m h z l. kept-cell all_threads 0 v m h z l; threads = λ v m. refl; counted = λ v m. refl }

  plains-grow : Grows with_plain (λ (m : Draft). m.plains)
  plains-grow = record { kept = λ v m h z l. kept-plain all_threads 0 v m h z l; threads = λ v m. refl; counted = λ v m. refl }

  module _ (more : Draft → ℕ → Draft) (many : Draft → ℕ) (grows : Grows more many) where
    values-after : (n : ℕ) (m : Draft) (bs : List ℕ) → Kept all_threads 0 m → m.threads ≡ 0 → many m + n ≤ 4 → OfValues bs (values_line more many n m bs)
    unfolding values_line
    values-after zero m bs h z l = bare-values m bs h z
    values-after (suc n) m bs h z l =
        by (number_in (token (past_blanks bs)))
        (λ v. behind-value bs (values_line more many n (more m v) (past_token (past_blanks bs)))
        (values-after n (more m v) (past_token (past_blanks bs)) (grows.kept v m h z (omega arith)) (grows.threads v m ∙ z) (omega (arith, grows.counted v m))))
      where
        by : (f : Found) → ((v : ℕ) → OfValues bs (values_line more many n (more m v) (past_token (past_blanks bs)))) →
            OfValues bs (elim f [ found v ↦ values_line more many n (more m v) (past_token (past_blanks bs)) | nothing ↦ cond (leb 1 (many m)) (bare_then 0 m bs) (refused_line (past_blanks bs)) ])
        by (found v) later = later v
        by nothing later = pick (OfValues bs) (leb 1 (many m)) (λ e. bare-values m bs h z) (λ e. tt)

-- Lines

-- what has been read is a table
abbrev pub Table : Draft → Type 0
Table m = (judged (table_of m) ≡ good) × AllBytes (table_of m)

module _ (l all_threads : ℕ) where
  pub record Ahead (rows : ℕ) (m : Draft) (bs : List ℕ) : Type 0 where
    pub short : length bs < suc l
    pub threads : all_threads ≡ m.threads + threads_ahead (suc l) bs
    pub rows_are : 1 ≤ m.threads → rows ≡ rows_so_far m + rows_ahead (suc l) bs

  abbrev pub After : Line → Type 0
  After (goes_on more m rest) = Kept all_threads more m × Ahead more m rest
  After (refused_line rest) = Unit {0}
  After (ended m) = Table m
  After (concludes m rest) = Table m

  module _ (rows : ℕ) (m : Draft) (bs : List ℕ) (h : Kept all_threads rows m) (a : Ahead rows m bs) where
    -- where neither threads nor rows lie ahead
    finished : threads_end bs ≡ true → 1 ≤ m.threads → Table m
    finished e s =
        (kept_table all_threads rows m h s (a.threads ∙ (omega (arith, threads-stop (suc l) bs e))) (a.rows_are s ∙ (omega (arith, rows-stop (suc l) bs (ending-stops bs e)))), kept-bytes all_threads rows m h)

    end_after : is_empty (past_blanks bs) ≡ true → After (the_end m bs)
    end_after e = pick After (leb 1 m.threads) (λ s. finished (rw e refl) (leb-true 1 m.threads s)) (λ s. tt)

    finally-after : says "finally" bs ≡ true → After (the_condition m bs)
    finally-after e = pick After (leb 1 m.threads) (λ s. finished (rw (e, or-true) refl) (leb-true 1 m.threads s)) (λ s. tt)

    module _ (full : is_empty (past_blanks bs) ≡ false) (unsaid : says "finally" bs ≡ false) where
      -- what follows this line
      later-short : length (next_line (past_blanks bs)) < suc l
      later-short = omega (arith, line-shorter bs full, a.short)

      goes-on : threads_end bs ≡ false
      goes-on = rw (full, unsaid) refl

      rows_on : says "thread" bs ≡ false → rows_end bs ≡ false
      rows_on t = rw (full, t, unsaid) refl

      bare-after : is_bare bs ≡ true → After (goes_on rows m (next_line (past_blanks bs)))
      bare-after e =
          let t = (bare-silent bs e).0 in (
            h,
            record {
              short = later-short;
              threads = a.threads ∙ ap (λ (n : ℕ). m.threads + n) (threads-line l bs a.short goes-on ∙ rw t (omega arith));
              rows_are = λ s. a.rows_are s ∙ ap (λ (n : ℕ). rows_so_far m + n) (rows-line l bs a.short (rows_on t) ∙ rw e (omega arith));
            },
          )

      -- in a line of start values, there is no thread yet
      values-go : says "thread" bs ≡ false → m.threads ≡ 0 → (line : Line) → OfValues all_threads (past_token (past_blanks bs)) line → After line
      values-go t z (goes_on more made rest) k =
          let same : rest ≡ next_line (past_blanks bs) = k.2 ∙ next_past (past_blanks bs) in (
            k.0,
            record {
              short = subst (λ (x : List ℕ). length x < suc l) (sym same) later-short;
              threads = a.threads ∙ (omega (arith, k.1, ap (threads_ahead (suc l)) same, threads-line l bs a.short goes-on, ap (λ (x : Bool). cond {A = ℕ} x 1 0) t));
              rows_are = λ s. absurd (omega (arith, k.1));
            },
          )
      values-go t z (refused_line rest) k = tt
      values-go t z (ended made) k = absurd k
      values-go t z (concludes made rest) k = absurd k

      thread-after : 1 ≤ m.cells → says "thread" bs ≡ true → After (aThread (suc l) m bs)
      thread-after c t =
          pick After (ltb m.threads 5)
          (λ f. pick After (is_bare (past_token (past_blanks bs)))
          (λ g. (
            kept-thread all_threads rows (rows_ahead (suc l) (next_line (past_blanks bs))) m h c (ltb-true m.threads 5 f) whole,
            record {
              short = subst (λ (x : List ℕ). length x < suc l) (sym same) later-short;
              threads = a.threads ∙ (omega (arith, ap (threads_ahead (suc l)) same, threads-line l bs a.short goes-on, ap (λ (x : Bool). cond {A = ℕ} x 1 0) t));
              rows_are = λ s. omega (arith, ap (rows_ahead (suc l)) same, fresh);
            },
          ))
          (λ g. tt))
          (λ f. tt)
        where
          same : next_line (past_blanks (past_token (past_blanks bs))) ≡ next_line (past_blanks bs)
          same = next-skip (past_token (past_blanks bs)) ∙ next_past (past_blanks bs)

          stops : rows_end bs ≡ true
          stops = rw (full, t) refl

          whole : 1 ≤ m.threads → rows ≡ rows_so_far m
          whole s = a.rows_are s ∙ (omega (arith, rows-stop (suc l) bs stops))

          fresh : get_or m.counts (m.threads + 1 - 1) 0 ≡ 0
          fresh = h.past (m.threads + 1 - 1) (omega arith)

      row-after : 1 ≤ m.threads → rows_so_far m < max_rows → is_bare bs ≡ false → says "thread" bs ≡ false → (r : Followed) → row_in (room_for all_threads rows (rows_so_far m) m) bs ≡ r → After (row_line rows m r)
      row-after s f b t (stuck rest) e = tt
      row-after s f b t (fits fields rest) e =
          let read = row_read (room_for all_threads rows (rows_so_far m) m) bs fields rest e in
          let same : rest ≡ next_line (past_blanks bs) = read.next ∙ sym (next-skip bs) in
          let one : get_or (set m.counts (m.threads - 1) (rows_so_far m + 1)) (m.threads - 1) 0 ≡ rows_so_far m + 1 = get_or-set_same m.counts (m.threads - 1) (rows_so_far m + 1) 0 (omega (arith, h.five, h.threads-few)) in (
            kept_row all_threads rows m h s f bs fields rest read,
            record {
              short = subst (λ (x : List ℕ). length x < suc l) (sym same) later-short;
              threads = a.threads ∙ (omega (arith, ap (threads_ahead (suc l)) same, threads-line l bs a.short goes-on, ap (λ (x : Bool). cond {A = ℕ} x 1 0) t));
              rows_are = λ k. a.rows_are s ∙ (omega (arith, one, ap (rows_ahead (suc l)) same, rows-line l bs a.short (rows_on t), ap (λ (x : Bool). cond {A = ℕ} x 0 1) b));
            },
          )

    -- a line of start values, where there is none yet
    some-values : (more : Draft → ℕ → Draft) (many : Draft → ℕ) → Grows all_threads more many → is_empty (past_blanks bs) ≡ false → (says "thread" bs ≡ false) × (says "finally" bs ≡ false) →
        m.threads ≡ 0 → many m ≡ 0 → After (values_line more many 4 m (past_token (past_blanks bs)))
    some-values more many grows full silent none z =
        values-go full silent.1 silent.0 none (values_line more many 4 m (past_token (past_blanks bs)))
        (values-after all_threads more many grows 4 m (past_token (past_blanks bs)) (kept_any all_threads rows 0 m h none) none (omega arith))

    first-after : is_empty (past_blanks bs) ≡ false → m.cells ≡ 0 → After (first_line m bs)
    first-after full z =
        pick After (says "cells" bs)
        (λ s. some-values with_cell (λ (x : Draft). x.cells) (cells-grow all_threads) full (cells-silent bs s) none z)
        (λ s. tt)
      where
        none : m.threads ≡ 0
        none = by (leb 1 m.threads) refl
          where
            by : (x : Bool) → leb 1 m.threads ≡ x → m.threads ≡ 0
            by true e = absurd (omega (arith, h.some (leb-true 1 m.threads e)))
            by false e = omega (arith, leb-false 1 m.threads e)

    plain-after : is_empty (past_blanks bs) ≡ false → is_plain_line m bs ≡ true → After (plain_line m bs)
    plain-after full e =
        let z = both_left (eqb m.threads 0 && eqb m.plains 0) (says "plain" bs) e in
        some-values with_plain (λ (x : Draft). x.plains) (plains-grow all_threads) full
        (plain-silent bs (both_right (eqb m.threads 0 && eqb m.plains 0) (says "plain" bs) e))
        (eqb-true m.threads 0 (both_left (eqb m.threads 0) (eqb m.plains 0) z))
        (eqb-true m.plains 0 (both_right (eqb m.threads 0) (eqb m.plains 0) z))

    one-row : is_empty (past_blanks bs) ≡ false → is_bare bs ≡ false → says "thread" bs ≡ false → says "finally" bs ≡ false → After (aRow all_threads rows m bs)
    one-row full b t f =
        pick After (leb 1 m.threads && ltb (rows_so_far m) max_rows)
        (λ s.
        row-after full f (leb-true 1 m.threads (both_left (leb 1 m.threads) _ s)) (ltb-true (rows_so_far m) max_rows (both_right (leb 1 m.threads) _ s)) b t
        (row_in (room_for all_threads rows (rows_so_far m) m) bs) refl)
        (λ s. tt)

    some-cells : eqb m.cells 0 ≡ false → 1 ≤ m.cells
    some-cells e = let d = eqb-false m.cells 0 e in omega arith

    -- a line that says `thread` does not say `finally`
    thread-silent : says "thread" bs ≡ true → says "finally" bs ≡ false
    unfolding bytes_of equal
    thread-silent e = rw (equal-true (token (past_blanks bs)) (bytes_of "thread") e) refl

    pub line_after : After (line_of (suc l) all_threads rows m bs)
    unfolding line_of
    line_after =
        pick After (is_empty (past_blanks bs)) end_after
        (λ full. pick After (is_bare bs) (λ b. bare-after full (bare-silent bs b).1 b)
        (λ b. pick After (eqb m.cells 0) (λ c. first-after full (eqb-true m.cells 0 c))
        (λ c. pick After (is_plain_line m bs) (plain-after full)
        (λ p. pick After (says "thread" bs) (λ t. thread-after full (thread-silent t) (some-cells c) t)
        (λ t. pick After (says "finally" bs) finally-after (λ f. one-row full b t f))))))
