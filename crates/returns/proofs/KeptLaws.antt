-- What each line keeps of what has been read. Assumes nothing.
--     kept-start                nothing yet
--     kept-cell, kept-plain     one cell more, one plain cell more
--     kept-thread               one thread more, where the last has all its rows
--     kept_row                  one row more
use Prim.Native.Nat.{ℕ, zero, suc, ◌+◌, ◌-◌, ◌*◌, ◌≤◌, ◌<◌}
use mathlib.Core.List.{List, ◌++◌}
use mathlib.Core.Logic.{◌≢◌}
use mathlib.Core.Path.{◌≡◌, refl, ap, sym, subst, ◌∙◌}
use native.Mathlib.Omega.{arith}
use native.Mathlib.Decide.{ℕ_discrete}
use lib.ListN.{length, get_or, take, replicate, length-append, length-set}
use lib.Seq.{get_or-set_same, get_or-set_other, take-set-le}
use Rattle.rules.specs.Event.{little}
use Rattle.rules.specs.Table.{max_rows, total, is_fine, row_decoded, row_from, Row}
use Rattle.rules.specs.Form.{fields_as_bytes}
use Rattle.rules.specs.Text.{Draft, nothing_made, with_cell, with_plain, with_thread, with_row, rows_so_far}
use Rattle.rules.proofs.LittleLaws.{little-long}
use Rattle.returns.proofs.ByteLaws.{bytes-append, little-bytes, row-is-bytes}
use Rattle.returns.proofs.CountLaws.{total-next, total-take, total-past, total-set}
use Rattle.returns.proofs.LineLaws.{room_for}
use Rattle.returns.proofs.RowRead.{RowRead}
use Rattle.returns.proofs.AppendLaws.{row_kept, row_new, row-bytes-long}
use Rattle.returns.proofs.MadeLaws.{RowFits, Kept}

-- One row more

module _ (all_threads rows : ℕ) (m : Draft) (h : Kept all_threads rows m) (some : 1 ≤ m.threads) (few : rows_so_far m < max_rows)
    (bs fields rest : List ℕ) (r : RowRead (room_for all_threads rows (rows_so_far m) m) bs fields rest) where
  -- the last thread
  last : ℕ
  last = m.threads - 1

  counts : List ℕ
  counts = (with_row m fields).counts

  body : List ℕ
  body = (with_row m fields).body

  last-there : last < length m.counts
  unfolding last
  last-there = omega (arith, h.five, h.threads-few)

  counts-last : get_or counts last 0 ≡ rows_so_far m + 1
  unfolding last counts
  counts-last = get_or-set_same m.counts (m.threads - 1) (rows_so_far m + 1) 0 last-there

  counts-other : (k : ℕ) → k ≢ last → get_or counts k 0 ≡ get_or m.counts k 0
  unfolding last counts
  counts-other k d = get_or-set_other m.counts (m.threads - 1) k (rows_so_far m + 1) 0 d

  before_same : (k : ℕ) → k ≤ last → total (take k counts) ≡ total (take k m.counts)
  unfolding last counts
  before_same k l = ap total (take-set-le k m.counts (m.threads - 1) (rows_so_far m + 1) l)

  body-long : length body ≡ length m.body + 24
  unfolding body
  body-long = length-append m.body (fields_as_bytes fields) ∙ ap (λ (n : ℕ). length m.body + n) (row-bytes-long fields r.long)

  -- the rows of the threads up to the last are all
  total-last : total m.counts ≡ total (take last m.counts) + rows_so_far m
  unfolding last
  total-last =
      let e : suc (m.threads - 1) ≡ m.threads = omega arith in
      sym (total-past m.counts (suc (m.threads - 1)) (λ i l. h.past i (omega arith))) ∙ total-next m.counts (m.threads - 1)

  -- the rows before are left
  left : (e k i : ℕ) → k ≤ last → i < get_or m.counts k 0 → RowFits all_threads e m m.counts m.body k i → RowFits all_threads e m counts body k i
  unfolding body
  left e k i l n f a b =
      let within = total-take m.counts (suc k) in
      let next = total-next m.counts k in
      ap (λ (x : ℕ). is_fine (row_decoded (room_for all_threads e i m) (row_from (m.body ++ fields_as_bytes fields) (8 * (m.cells + m.plains) + 24 * (x + i))))) (before_same k l)
      ∙ ap (λ (x : Row). is_fine (row_decoded (room_for all_threads e i m) x))
      (row_kept m.body (fields_as_bytes fields) (8 * (m.cells + m.plains) + 24 * (total (take k m.counts) + i)) (omega (arith, h.size)))
      ∙ f a b

  -- and the new one stands behind them
  added : RowFits all_threads rows m counts body last (rows_so_far m)
  unfolding body
  added a b =
      let place : length m.body ≡ 8 * (m.cells + m.plains) + 24 * (total (take last counts) + rows_so_far m) = h.size ∙ (omega (arith, total-last, before_same last (omega arith))) in
      ap (λ (x : Row). is_fine (row_decoded (room_for all_threads rows (rows_so_far m) m) x))
      (row_new m.body fields (8 * (m.cells + m.plains) + 24 * (total (take last counts) + rows_so_far m)) place r.long (r.within h.cells-few h.plains-few a b))
      ∙ r.fine

  currently : (k : ℕ) → suc k ≡ m.threads → (i : ℕ) → i < get_or counts k 0 → RowFits all_threads rows m counts body k i
  unfolding last
  currently k e i n =
      let q : k ≡ m.threads - 1 = omega arith in
      let there : get_or m.counts k 0 ≡ rows_so_far m = ap (λ (x : ℕ). get_or m.counts x 0) q in
      let now : get_or counts k 0 ≡ rows_so_far m + 1 = ap (λ (x : ℕ). get_or counts x 0) q ∙ counts-last in
      elim (ℕ_discrete i (rows_so_far m)) [
        | yes d ↦ subst (λ (x : ℕ). RowFits all_threads rows m counts body k x) (sym d) (subst (λ (x : ℕ). RowFits all_threads rows m counts body x (rows_so_far m)) (sym q) added)
        | no d ↦ left rows k i (omega arith) (omega arith) (h.current k e i (omega arith))
      ]

  pub kept_row : Kept all_threads rows (with_row m fields)
  unfolding last counts body
  kept_row = record {
    five = length-set m.counts (m.threads - 1) (rows_so_far m + 1) ∙ h.five;
    cells-few = h.cells-few;
    plains-few = h.plains-few;
    threads-few = h.threads-few;
    some = h.some;
    past = λ k l. counts-other k (omega arith) ∙ h.past k l;
    few = λ k. elim (ℕ_discrete k (m.threads - 1)) [
      | yes e ↦ omega (arith, ap (λ (x : ℕ). get_or counts x 0) e, counts-last)
      | no d ↦ omega (arith, counts-other k d, h.few k)
    ];
    size = body-long ∙ (omega (arith, h.size, total-set m.counts (m.threads - 1) (rows_so_far m + 1) last-there));
    bytes = bytes-append m.body (fields_as_bytes fields) h.bytes (row-is-bytes fields);
    earlier = λ k l i n.
        let same = counts-other k (omega arith) in
        subst (λ (x : ℕ). RowFits all_threads x m counts body k i) (sym same) (left (get_or m.counts k 0) k i (omega arith) (omega arith) (h.earlier k l i (omega arith)));
    current = currently;
  }

-- One thread more

pub kept-thread : (all_threads rows more : ℕ) (m : Draft) → Kept all_threads rows m → 1 ≤ m.cells → m.threads < 5 → (1 ≤ m.threads → rows ≡ rows_so_far m) → Kept all_threads more (with_thread m)
kept-thread all_threads rows more m h some few full = record {
  five = h.five;
  cells-few = h.cells-few;
  plains-few = h.plains-few;
  threads-few = omega arith;
  some = λ l. some;
  past = λ k l. h.past k (omega arith);
  few = h.few;
  size = h.size;
  bytes = h.bytes;
  earlier = λ k l i n. elim (ℕ_discrete (suc k) m.threads) [
    | yes e ↦
        let f : m.threads - 1 ≡ k = omega arith in
        subst (λ (x : ℕ). RowFits all_threads x m m.counts m.body k i) (full (omega arith) ∙ ap (λ (x : ℕ). get_or m.counts x 0) f) (h.current k e i n)
    | no d ↦ h.earlier k (omega arith) i n
  ];
  current = λ k e i n. absurd (omega (arith, h.past k (omega arith)));
}

-- Cells, before any thread

-- one value more, of a cell or of a plain cell
kept-value : (all_threads rows v cells plains : ℕ) (m : Draft) → Kept all_threads rows m → m.threads ≡ 0 → cells ≤ 4 → plains ≤ 4 → cells + plains ≡ m.cells + m.plains + 1 →
    Kept all_threads rows (record { cells = cells; plains = plains; threads = m.threads; counts = m.counts; body = m.body ++ little 8 v })
kept-value all_threads rows v cells plains m h none few fewer one = record {
  five = h.five;
  cells-few = few;
  plains-few = fewer;
  threads-few = h.threads-few;
  some = λ l. absurd (omega arith);
  past = h.past;
  few = h.few;
  size = length-append m.body (little 8 v) ∙ (omega (arith, h.size, little-long 8 v));
  bytes = bytes-append m.body (little 8 v) h.bytes (little-bytes 8 v);
  earlier = λ k l i n. absurd (omega arith);
  current = λ k e i n. absurd (omega arith);
}

pub kept-cell : (all_threads rows v : ℕ) (m : Draft) → Kept all_threads rows m → m.threads ≡ 0 → m.cells < 4 → Kept all_threads rows (with_cell m v)
kept-cell all_threads rows v m h none few = kept-value all_threads rows v (m.cells + 1) m.plains m h none (omega arith) h.plains-few (omega arith)

pub kept-plain : (all_threads rows v : ℕ) (m : Draft) → Kept all_threads rows m → m.threads ≡ 0 → m.plains < 4 → Kept all_threads rows (with_plain m v)
kept-plain all_threads rows v m h none few = kept-value all_threads rows v m.cells (m.plains + 1) m h none h.cells-few (omega arith) (omega arith)

-- how many rows there are to be matters only in a thread
pub kept_any : (all_threads rows more : ℕ) (m : Draft) → Kept all_threads rows m → m.threads ≡ 0 → Kept all_threads more m
kept_any all_threads rows more m h none = record {
  five = h.five;
  cells-few = h.cells-few;
  plains-few = h.plains-few;
  threads-few = h.threads-few;
  some = h.some;
  past = h.past;
  few = h.few;
  size = h.size;
  bytes = h.bytes;
  earlier = h.earlier;
  current = λ k e i n. absurd (omega arith);
}

zeros-at : (n k : ℕ) → get_or {A = ℕ} (replicate n 0) k 0 ≡ 0
zeros-at zero k = refl
zeros-at (suc n) zero = refl
zeros-at (suc n) (suc k) = zeros-at n k

pub kept-start : (all_threads rows : ℕ) → Kept all_threads rows nothing_made
unfolding total
kept-start all_threads rows = record {
  five = refl;
  cells-few = omega arith;
  plains-few = omega arith;
  threads-few = omega arith;
  some = λ l. absurd (omega arith);
  past = λ k l. zeros-at 5 k;
  few = λ k. omega (arith, zeros-at 5 k);
  size = refl;
  bytes = tt;
  earlier = λ k l. absurd (omega arith);
  current = λ k e. absurd (omega arith);
}
