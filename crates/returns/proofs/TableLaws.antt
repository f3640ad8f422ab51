-- A table that document 01 accepts, part by part. Assumes nothing.
--     RowsFine, rows-good, good-rows     its rows, thread by thread, and back
--     Header, header-known, header_made  its header, and back
--     Fine, fine-table                   what is known of an accepted table
--     thread-rows, row-there             a row of it
--     table-whole                        its bytes
use Prim.Native.Nat.{ℕ, zero, suc, ◌+◌, ◌≤◌, ◌<◌}
use mathlib.Core.List.{List, [], ◌∷◌, ◌++◌}
use mathlib.Core.Bool.{Bool, true, false, cond, ◌&&◌, true≢false}
use mathlib.Core.Path.{◌≡◌, refl, ap, sym, ◌∙◌}
use native.Mathlib.Omega.{arith}
use native.Mathlib.Decide.{ℕ_discrete}
use lib.Dec.{ltb, leb}
use lib.ListN.{length, get_or, take, drop, take-append-drop}
use lib.Seq.{drop-cons, drop-drop}
use borrow.Author.Tests.{ltb-false, leb-true, eqb-true, le-ltb, le-leb, eq-eqb}
use Rattle.rules.specs.Table.{max_threads, max_cells, max_plains, max_values, all_rows, size_of, threads_of, cells_of, plains_of, values_of, counts_of, room_of, counts_fine, total, header_fine, good, bad_header, bad_row, judged, rows_judged, first_bad, first_not, is_fine, op_at, row_at, row_from, row_decoded, no_row, refused}
use Rattle.rules.proofs.MeasureRows.{both_left, both_right}
use Rattle.rules.proofs.MeasureAccepted.{good-header}
use Rattle.returns.proofs.TokenLaws.{also}

-- Rows

none-bad : (fine : ℕ → Bool) (n i : ℕ) → ((j : ℕ) → i ≤ j → j < i + n → fine j ≡ true) → first_not fine n i ≡ i + n
unfolding first_not
none-bad fine zero i h = omega arith
none-bad fine (suc n) i h =
    rw (h i (omega arith) (omega arith)) (none-bad fine n (i + 1) (λ j l m. h j (omega arith) (omega arith)) ∙ (omega arith))

all-fine : (fine : ℕ → Bool) (n i : ℕ) → i + n ≤ first_not fine n i → (j : ℕ) → i ≤ j → j < i + n → fine j ≡ true
unfolding first_not
all-fine fine zero i h j l m = absurd (omega arith)
all-fine fine (suc n) i h j l m = by (λ k x y. all-fine fine n (i + 1) k j x y) (fine i) refl h
  where
    by : (i + 1 + n ≤ first_not fine n (i + 1) → i + 1 ≤ j → j < i + 1 + n → fine j ≡ true) → (x : Bool) → fine i ≡ x →
        i + suc n ≤ cond x (first_not fine n (i + 1)) i → fine j ≡ true
    by more false e k = absurd (omega arith)
    by more true e k = elim (ℕ_discrete i j) [ yes q ↦ ap fine (sym q) ∙ e | no d ↦ more (omega arith) (omega arith) (omega arith) ]

module _ (t : List ℕ) where
  -- of the threads whose counts are these and whose rows begin at this number
  abbrev pub RowsFine : ℕ → List ℕ → Type 0
  RowsFine first [] = Unit {0}
  RowsFine first (c ∷ cs) = ((i : ℕ) → i < c → is_fine (op_at t (room_of t c i) (first + i)) ≡ true) × RowsFine (first + c) cs

  pub rows-good : (thread first : ℕ) (cs : List ℕ) → RowsFine first cs → rows_judged t thread first cs ≡ good
  unfolding rows_judged first_bad
  rows-good thread first [] h = refl
  rows-good thread first (c ∷ cs) h =
      let e = none-bad (λ (i : ℕ). is_fine (op_at t (room_of t c i) (first + i))) c 0 (λ j l m. h.0 j (omega arith)) in
      rw (le-ltb (first_bad t first c) c (omega (arith, e))) (rows-good (thread + 1) (first + c) cs h.1)

  pub good-rows : (thread first : ℕ) (cs : List ℕ) → rows_judged t thread first cs ≡ good → RowsFine first cs
  unfolding rows_judged first_bad
  good-rows thread first [] h = tt
  good-rows thread first (c ∷ cs) h = by (ltb (first_bad t first c) c) refl h (λ k. good-rows (thread + 1) (first + c) cs k)
    where
      by : (x : Bool) → ltb (first_bad t first c) c ≡ x →
          cond x (bad_row thread (first_bad t first c)) (rows_judged t (thread + 1) (first + c) cs) ≡ good →
          (rows_judged t (thread + 1) (first + c) cs ≡ good → RowsFine (first + c) cs) → RowsFine first (c ∷ cs)
      by true e k more = let z : ◌≡◌ {A = ℕ} 0 1 = cc in absurd (omega arith)
      by false e k more = (
        (λ i l. all-fine (λ (j : ℕ). is_fine (op_at t (room_of t c j) (first + j))) c 0 (omega (arith, ltb-false (first_bad t first c) c e)) i (omega arith) (omega arith)),
        more k,
      )

  -- by the thread's number
  pub thread-rows : (first : ℕ) (cs : List ℕ) → RowsFine first cs → (k : ℕ) → k < length cs → (i : ℕ) → i < get_or cs k 0 →
      is_fine (op_at t (room_of t (get_or cs k 0) i) (first + total (take k cs) + i)) ≡ true
  unfolding total
  thread-rows first [] h k l i m = absurd (omega arith)
  thread-rows first (c ∷ cs) h zero l i m = let e : first + 0 + i ≡ first + i = omega arith in rw e (h.0 i m)
  thread-rows first (c ∷ cs) h (suc k) l i m =
      let e : first + (c + total (take k cs)) + i ≡ first + c + total (take k cs) + i = omega arith in
      rw e (thread-rows (first + c) cs h.1 k (omega arith) i m)

  -- and back
  pub rows-from : (first : ℕ) (cs : List ℕ) → ((k : ℕ) → k < length cs → (i : ℕ) → i < get_or cs k 0 →
      is_fine (op_at t (room_of t (get_or cs k 0) i) (first + total (take k cs) + i)) ≡ true) → RowsFine first cs
  unfolding total
  rows-from first [] h = tt
  rows-from first (c ∷ cs) h = (
    (λ i l. let e : first + 0 + i ≡ first + i = omega arith in rw e at (h 0 (omega arith) i l)),
    rows-from (first + c) cs
        (λ k l i m.
        let e : first + (c + total (take k cs)) + i ≡ first + c + total (take k cs) + i = omega arith in
        rw e at (h (suc k) (omega arith) i m)),
  )

  -- a row that is fine is there: it has this number in a thread of so many rows, and number i among all
  pub record There (count row i : ℕ) : Type 0 where
    pub is : row_at t (values_of t) i ≡ row_from t (size_of (values_of t) i)
    pub within : size_of (values_of t) i + 24 ≤ length t
    pub fine : is_fine (row_decoded (room_of t count row) (row_at t (values_of t) i)) ≡ true

  pub row-there : (count row i : ℕ) → is_fine (op_at t (room_of t count row) i) ≡ true → There count row i
  unfolding op_at row_at row_decoded
  row-there count row i h = record {
    is = ap (λ (x : Bool). cond x (row_from t (size_of (values_of t) i)) no_row) e;
    within = leb-true (size_of (values_of t) i + 24) (length t) (both_right (leb (values_of t) max_values && ltb i all_rows) _ e);
    fine = f;
  }
    where
      said : (x : Bool) → is_fine (cond x (row_decoded (room_of t count row) (row_at t (values_of t) i)) refused) ≡ true → is_fine (row_decoded (room_of t count row) (row_at t (values_of t) i)) ≡ true
      said true k = k
      said false k = absurd (true≢false (sym k))

      f : is_fine (row_decoded (room_of t count row) (row_at t (values_of t) i)) ≡ true
      f = said (leb (threads_of t) max_threads && leb (cells_of t) max_cells && leb (plains_of t) max_plains) h

      held : (x : Bool) → is_fine (row_decoded (room_of t count row) (cond x (row_from t (size_of (values_of t) i)) no_row)) ≡ true → x ≡ true
      held true k = refl
      held false k = absurd (true≢false (sym k))

      e : (leb (values_of t) max_values && ltb i all_rows && leb (size_of (values_of t) i + 24) (length t)) ≡ true
      e = held _ f

-- The header

pub record Header (t : List ℕ) : Type 0 where
  pub long : 8 ≤ length t
  pub threads-some : 1 ≤ threads_of t
  pub threads-few : threads_of t ≤ 5
  pub cells-some : 1 ≤ cells_of t
  pub cells-few : cells_of t ≤ 4
  pub counts : counts_fine (threads_of t) 0 (counts_of t) ≡ true
  pub plains-few : plains_of t ≤ 4
  pub size : length t ≡ size_of (values_of t) (total (counts_of t))

pub header-known : (t : List ℕ) → header_fine t ≡ true → Header t
unfolding header_fine
header-known t e =
    let a = leb 8 (length t) in
    let b = leb 1 (threads_of t) && leb (threads_of t) 5 in
    let c = leb 1 (cells_of t) && leb (cells_of t) 4 in
    let d = counts_fine (threads_of t) 0 (counts_of t) in
    let z = leb (plains_of t) 4 in
    let e1 = both_left (a && b && c && d && z) _ e in
    let e2 = both_left (a && b && c && d) _ e1 in
    let e3 = both_left (a && b && c) _ e2 in
    let e4 = both_left (a && b) _ e3 in
    let th = both_right a b e4 in
    let ce = both_right (a && b) c e3 in
    record {
      long = leb-true 8 (length t) (both_left a b e4);
      threads-some = leb-true 1 (threads_of t) (both_left (leb 1 (threads_of t)) _ th);
      threads-few = leb-true (threads_of t) 5 (both_right (leb 1 (threads_of t)) _ th);
      cells-some = leb-true 1 (cells_of t) (both_left (leb 1 (cells_of t)) _ ce);
      cells-few = leb-true (cells_of t) 4 (both_right (leb 1 (cells_of t)) _ ce);
      counts = both_right (a && b && c) d e2;
      plains-few = leb-true (plains_of t) 4 (both_right (a && b && c && d) z e1);
      size = eqb-true (length t) (size_of (values_of t) (total (counts_of t))) (both_right (a && b && c && d && z) _ e);
    }

pub header_made : (t : List ℕ) → Header t → header_fine t ≡ true
unfolding header_fine
header_made t h =
    also
    (also
    (also
    (also (also (le-leb 8 (length t) h.long) (also (le-leb 1 (threads_of t) h.threads-some) (le-leb (threads_of t) 5 h.threads-few)))
    (also (le-leb 1 (cells_of t) h.cells-some) (le-leb (cells_of t) 4 h.cells-few)))
    h.counts)
    (le-leb (plains_of t) 4 h.plains-few))
    (eq-eqb (length t) (size_of (values_of t) (total (counts_of t))) h.size)

-- A whole table

pub record Fine (t : List ℕ) : Type 0 where
  pub header : Header t
  pub rows : RowsFine t 0 (counts_of t)

pub fine-table : (t : List ℕ) → judged t ≡ good → Fine t
unfolding judged
fine-table t h =
    let e = good-header t h in
    record {
      header = header-known t e;
      rows = good-rows t 0 0 (counts_of t)
          (sym (ap (λ (x : Bool). cond x (rows_judged t 0 0 (counts_of t)) bad_header) e) ∙ h);
    }

pub table-fine : (t : List ℕ) → Fine t → judged t ≡ good
unfolding judged
table-fine t f =
    ap (λ (x : Bool). cond x (rows_judged t 0 0 (counts_of t)) bad_header) (header_made t f.header)
    ∙ rows-good t 0 0 (counts_of t) f.rows

-- its bytes: the header's eight, and the others
pub table-whole : (t : List ℕ) → 8 ≤ length t → threads_of t ∷ cells_of t ∷ (counts_of t ++ (plains_of t ∷ drop 8 t)) ≡ t
unfolding counts_of
table-whole t h =
    sym
    (drop-cons t 0 0 (omega arith)
    ∙ ap (λ (l : List ℕ). get_or t 0 0 ∷ l)
    (drop-cons t 1 0 (omega arith)
    ∙ ap (λ (l : List ℕ). get_or t 1 0 ∷ l)
    (sym (take-append-drop 5 (drop 2 t))
    ∙ ap (λ (l : List ℕ). take 5 (drop 2 t) ++ l) (drop-drop 5 2 t ∙ drop-cons t 7 0 (omega arith)))))
