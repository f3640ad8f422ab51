-- What has been read of a program keeps what a table must have. Assumes nothing.
--     Kept            of what has been read so far: in a text of so many threads, in a thread of so many rows
--     kept-bytes      it is bytes
--     kept_table      where those are all, it is a table that document 01 accepts
use Prim.Native.Nat.{ℕ, suc, ◌+◌, ◌-◌, ◌*◌, ◌≤◌, ◌<◌}
use mathlib.Core.List.{List, [], ◌∷◌, ◌++◌, append_assoc}
use mathlib.Core.Bool.{true}
use mathlib.Core.Logic.{◌≢◌}
use mathlib.Core.Path.{◌≡◌, ap, sym, subst, ◌∙◌}
use native.Mathlib.Omega.{arith}
use native.Mathlib.Decide.{ℕ_discrete, dec_lt}
use lib.ListN.{length, get_or, take, length-append}
use lib.Seq.{take_at, get_or_at}
use borrow.Author.Tests.{le-leb, lt-ltb}
use Rattle.rules.specs.Table.{max_values, max_rows, all_rows, plains_of, counts_of, counts_fine, total, size_of, judged, good, is_fine, row_decoded, row_from, row_at, op_at, Room, room_of, Row}
use Rattle.rules.specs.ConditionTree.{AllBytes}
use Rattle.rules.specs.Text.{Draft, table_of, rows_so_far}
use Rattle.returns.proofs.ByteLaws.{bytes-append}
use Rattle.returns.proofs.TableLaws.{Header, RowsFine, rows-from, table-fine}
use Rattle.returns.proofs.CountLaws.{total-next, total-take, total-few, counts-made}
use Rattle.returns.proofs.LineLaws.{room_for}
use Rattle.returns.proofs.AppendLaws.{row-behind}

-- row i of thread k in these bytes is fine, if there are not too many threads and rows
abbrev pub RowFits : (all_threads rows : ℕ) (m : Draft) (counts body : List ℕ) → (k i : ℕ) → Type 0
RowFits all_threads rows m counts body k i =
    all_threads ≤ 5 → rows ≤ max_rows → is_fine (row_decoded (room_for all_threads rows i m) (row_from body (8 * (m.cells + m.plains) + 24 * (total (take k counts) + i)))) ≡ true

pub record Kept (all_threads rows : ℕ) (m : Draft) : Type 0 where
  pub five : length m.counts ≡ 5
  pub cells-few : m.cells ≤ 4
  pub plains-few : m.plains ≤ 4
  pub threads-few : m.threads ≤ 5
  pub some : 1 ≤ m.threads → 1 ≤ m.cells
  pub past : (k : ℕ) → m.threads ≤ k → get_or m.counts k 0 ≡ 0
  pub few : (k : ℕ) → get_or m.counts k 0 ≤ max_rows
  pub size : length m.body ≡ 8 * (m.cells + m.plains) + 24 * total m.counts
  pub bytes : AllBytes m.body
  -- the threads before the last have as many rows as they were to have, and the last so far
  pub earlier : (k : ℕ) → suc k < m.threads → (i : ℕ) → i < get_or m.counts k 0 → RowFits all_threads (get_or m.counts k 0) m m.counts m.body k i
  pub current : (k : ℕ) → suc k ≡ m.threads → (i : ℕ) → i < get_or m.counts k 0 → RowFits all_threads rows m m.counts m.body k i

few_bytes : (cs : List ℕ) → ((k : ℕ) → get_or cs k 0 ≤ max_rows) → AllBytes cs
few_bytes [] h = tt
few_bytes (c ∷ cs) h = (omega (arith, h 0), few_bytes cs (λ k. h (suc k)))

pub kept-bytes : (all_threads rows : ℕ) (m : Draft) → Kept all_threads rows m → AllBytes (table_of m)
kept-bytes all_threads rows m h =
    (omega (arith, h.threads-few), (omega (arith, h.cells-few), bytes-append m.counts (m.plains ∷ m.body) (few_bytes m.counts h.few) (omega (arith, h.plains-few), h.bytes)))

module _ (all_threads rows : ℕ) (m : Draft) (h : Kept all_threads rows m) (some : 1 ≤ m.threads) (every : all_threads ≡ m.threads) (full : rows ≡ rows_so_far m) where
  t : List ℕ
  t = table_of m

  head : List ℕ
  head = m.threads ∷ m.cells ∷ (m.counts ++ (m.plains ∷ []))

  head-long : length head ≡ 8
  unfolding head
  head-long = omega (arith, length-append m.counts (m.plains ∷ []), h.five)

  behind-head : t ≡ head ++ m.body
  unfolding t head
  behind-head = ap (λ (l : List ℕ). m.threads ∷ m.cells ∷ l) (sym (append_assoc m.counts (m.plains ∷ []) m.body))

  counts-are : counts_of t ≡ m.counts
  unfolding t counts_of
  counts-are = take_at m.counts (m.plains ∷ m.body) 5 h.five

  long : length t ≡ 8 + length m.body
  long = ap length behind-head ∙ length-append head m.body ∙ (omega (arith, head-long))

  plains-are : plains_of t ≡ m.plains
  unfolding t
  plains-are = get_or_at m.counts m.plains m.body 0 5 h.five

  room-is : (n row : ℕ) → room_of t n row ≡ room_for all_threads n row m
  unfolding t
  room-is n row = λ i. record { threads = sym every i; cells = m.cells; plains = plains-are i; rows = n; row = row }

  header : Header t
  unfolding t
  header = record {
    long = omega (arith, long);
    threads-some = some;
    threads-few = h.threads-few;
    cells-some = h.some some;
    cells-few = h.cells-few;
    counts = ap (counts_fine m.threads 0) counts-are ∙ counts-made m.threads 0 m.counts h.few (λ k l. h.past k (omega arith));
    plains-few = omega (arith, plains-are, h.plains-few);
    size = long ∙ (omega (arith, h.size, plains-are, ap total counts-are));
  }

  -- a row's place is behind the header's eight bytes, and within the table
  row-place : (k i : ℕ) → k < 5 → i < get_or m.counts k 0 →
      row_at t (m.cells + m.plains) (0 + total (take k m.counts) + i) ≡ row_from m.body (8 * (m.cells + m.plains) + 24 * (total (take k m.counts) + i))
  unfolding row_at
  row-place k i l n =
      let j = 0 + total (take k m.counts) + i in
      let within = total-take m.counts (suc k) in
      let most = total-few m.counts h.few in
      let next = total-next m.counts k in
      let cells = h.cells-few in
      let plains = h.plains-few in
      let five = h.five in
      let e : size_of (m.cells + m.plains) j ≡ 8 + (8 * (m.cells + m.plains) + 24 * (total (take k m.counts) + i)) = omega arith in
      rw (le-leb (m.cells + m.plains) max_values (omega arith), lt-ltb j all_rows (omega arith), le-leb (size_of (m.cells + m.plains) j + 24) (length t) (omega (arith, long, h.size)))
      (ap (row_from t) e
      ∙ ap (λ (l : List ℕ). row_from l (8 + (8 * (m.cells + m.plains) + 24 * (total (take k m.counts) + i)))) behind-head
      ∙ row-behind head m.body 8 (8 * (m.cells + m.plains) + 24 * (total (take k m.counts) + i)) head-long)

  fits-so : (k i : ℕ) → i < get_or m.counts k 0 → RowFits all_threads (get_or m.counts k 0) m m.counts m.body k i
  fits-so k i n = elim (ℕ_discrete (suc k) m.threads) [
    | yes e ↦
        let f : m.threads - 1 ≡ k = omega arith in
        subst (λ (x : ℕ). RowFits all_threads x m m.counts m.body k i) (full ∙ ap (λ (x : ℕ). get_or m.counts x 0) f) (h.current k e i n)
    | no d ↦ h.earlier k (before k i n d) i n
  ]
    where
      before : (k i : ℕ) → i < get_or m.counts k 0 → suc k ≢ m.threads → suc k < m.threads
      before k i n d = elim (dec_lt k m.threads) [ yes l ↦ omega arith | no l ↦ absurd (omega (arith, h.past k (omega arith))) ]

  row-in : (k : ℕ) → k < 5 → (i : ℕ) → i < get_or m.counts k 0 → is_fine (op_at t (room_of t (get_or m.counts k 0) i) (0 + total (take k m.counts) + i)) ≡ true
  unfolding op_at
  row-in k l i n =
      let room = room_for all_threads (get_or m.counts k 0) i m in
      ap (λ (x : Room). is_fine (op_at t x (0 + total (take k m.counts) + i))) (room-is (get_or m.counts k 0) i)
      ∙ rw (le-leb all_threads 5 (omega (arith, h.threads-few)), le-leb m.cells 4 h.cells-few, le-leb m.plains 4 h.plains-few)
      (ap (λ (r : Row). is_fine (row_decoded room r)) (row-place k i l n) ∙ fits-so k i n (omega (arith, h.threads-few)) (h.few k))

  pub kept_table : judged (table_of m) ≡ good
  unfolding t
  kept_table = table-fine (table_of m) (record {
    header = header;
    rows =
        subst (RowsFine (table_of m) 0) (sym counts-are)
        (rows-from (table_of m) 0 m.counts (λ k l i n. row-in k (omega (arith, h.five)) i n));
  })
