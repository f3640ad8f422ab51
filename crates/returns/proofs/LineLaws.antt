-- The lines of a written text, one by one. Assumes nothing.
--     on-goes, on-ends, on-concludes     how all lines go on after one
--     row_step, thread-step, cells-step, plains-step, finally-step, end_step     what each line comes to
use Prim.Native.Nat.{ℕ, suc, ◌≤◌, ◌<◌}
use mathlib.Core.List.{List, [], ◌∷◌, ◌++◌}
use mathlib.Core.Bool.{false, ◌&&◌, and-false}
use mathlib.Core.Path.{◌≡◌, refl, ap}
use native.Mathlib.Omega.{arith}
use lib.Dec.{eqb}
use lib.ListN.{get_or}
use borrow.Author.Tests.{le-leb, lt-ltb, ne_eqb}
use Rattle.rules.specs.Vector.{equal}
use Rattle.rules.specs.Table.{Room, max_rows, max_cells, max_plains, max_threads}
use Rattle.rules.specs.Token.{bytes_of, line_feed, is_letter, run_length, token_length, line_length, ends_line}
use Rattle.rules.specs.Text.{Draft, with_cell, with_plain, with_row, with_thread, rows_so_far, table_of, rows_ahead, goes_on, ended, concludes, values_line, row_line, line_of, accepted, concluded, lines_from}
use Rattle.returns.proofs.TokenLaws.{run-all, Stands, letters, stands-some}
use Rattle.returns.proofs.RowLine.{RowLine}

module _ (n lines all_threads rows : ℕ) (m : Draft) (bs : List ℕ) where
  pub on-goes : (more : ℕ) (made : Draft) (rest : List ℕ) → line_of lines all_threads rows m bs ≡ goes_on more made rest →
      lines_from (suc n) lines all_threads rows m bs ≡ lines_from n lines all_threads more made rest
  unfolding lines_from
  on-goes more made rest e = rw (lines_from, e) refl

  pub on-ends : (made : Draft) → line_of lines all_threads rows m bs ≡ ended made → lines_from (suc n) lines all_threads rows m bs ≡ accepted (table_of made) []
  unfolding lines_from
  on-ends made e = rw (lines_from, e) refl

  pub on-concludes : (made : Draft) (rest : List ℕ) → line_of lines all_threads rows m bs ≡ concludes made rest →
      lines_from (suc n) lines all_threads rows m bs ≡ concluded lines made rest
  unfolding lines_from
  on-concludes made rest e = rw (lines_from, e) refl

-- the room of a row of this number, in a thread of so many rows
abbrev pub room_for : ℕ → ℕ → ℕ → Draft → Room
room_for all_threads rows row m = record { threads = all_threads; cells = m.cells; plains = m.plains; rows = rows; row = row }

module _ (lines all_threads rows : ℕ) (m : Draft) where
  some-cells : 1 ≤ m.cells → eqb m.cells 0 ≡ false
  some-cells h = ne_eqb m.cells 0 (λ e. omega arith)

  some-threads : 1 ≤ m.threads → eqb m.threads 0 ≡ false
  some-threads h = ne_eqb m.threads 0 (λ e. omega arith)

  pub row_step : (fields line rest : List ℕ) → RowLine (room_for all_threads rows (rows_so_far m) m) fields line → 1 ≤ m.cells → 1 ≤ m.threads → rows_so_far m < max_rows →
      line_of lines all_threads rows m (line ++ rest) ≡ goes_on rows (with_row m fields) rest
  unfolding line_of
  row_step fields line rest r c t l =
      rw
      (r.plain.some rest, r.plain.full rest, some-cells c, some-threads t, r.plain.no_thread rest, r.plain.no_finally rest, le-leb 1 m.threads t, lt-ltb (rows_so_far m) max_rows l)
      (ap (row_line rows m) (r.read rest))

  -- the words that begin the other lines
  thread-word : (rest : List ℕ) → Stands (bytes_of "thread") (line_feed ∷ rest)
  unfolding bytes_of
  thread-word rest = letters _ _ (line_feed ∷ rest) refl refl

  pub thread-step : (rest : List ℕ) (count : ℕ) → 1 ≤ m.cells → m.threads < max_threads → rows_ahead lines rest ≡ count →
      line_of lines all_threads rows m (bytes_of "thread" ++ (line_feed ∷ rest)) ≡ goes_on count (with_thread m) rest
  unfolding line_of run_length ends_line line_length bytes_of token_length equal
  thread-step rest count c t e =
      rw (stands-some (thread-word rest), some-cells c, and-false (eqb m.threads 0 && eqb m.plains 0), lt-ltb m.threads max_threads t) (ap (λ (n : ℕ). goes_on n (with_thread m) rest) e)

  finally-word : (rest : List ℕ) → is_letter (get_or rest 0 0) ≡ false → Stands (bytes_of "finally") rest
  unfolding bytes_of
  finally-word rest p = letters _ _ rest refl p

  pub finally-step : (rest : List ℕ) → is_letter (get_or rest 0 0) ≡ false → 1 ≤ m.cells → 1 ≤ m.threads → line_of lines all_threads rows m (bytes_of "finally" ++ rest) ≡ concludes m rest
  unfolding line_of run_length ends_line bytes_of token_length equal
  finally-step rest p c t = rw (run-all is_letter [] rest refl p, stands-some (finally-word rest p), some-cells c, some-threads t, le-leb 1 m.threads t) refl

  cells-word : (rest : List ℕ) → is_letter (get_or rest 0 0) ≡ false → Stands (bytes_of "cells") rest
  unfolding bytes_of
  cells-word rest p = letters _ _ rest refl p

  pub cells-step : (rest : List ℕ) → is_letter (get_or rest 0 0) ≡ false → m.cells ≡ 0 →
      line_of lines all_threads rows m (bytes_of "cells" ++ rest) ≡ values_line with_cell (λ (made : Draft). made.cells) max_cells m rest
  unfolding line_of run_length ends_line bytes_of token_length equal
  cells-step rest p c = rw (run-all is_letter [] rest refl p, stands-some (cells-word rest p), c) refl

  plain_word : (rest : List ℕ) → is_letter (get_or rest 0 0) ≡ false → Stands (bytes_of "plain") rest
  unfolding bytes_of
  plain_word rest p = letters _ _ rest refl p

  pub plains-step : (rest : List ℕ) → is_letter (get_or rest 0 0) ≡ false → 1 ≤ m.cells → m.threads ≡ 0 → m.plains ≡ 0 →
      line_of lines all_threads rows m (bytes_of "plain" ++ rest) ≡ values_line with_plain (λ (made : Draft). made.plains) max_plains m rest
  unfolding line_of run_length ends_line bytes_of token_length equal
  plains-step rest p c t z = rw (run-all is_letter [] rest refl p, stands-some (plain_word rest p), some-cells c, t, z) refl

  pub end_step : 1 ≤ m.threads → line_of lines all_threads rows m [] ≡ ended m
  unfolding line_of run_length
  end_step t = rw (le-leb 1 m.threads t) refl
