-- A table that grows in a buffer. Assumes nothing.
--     filled_on           bytes put behind those that are there
--     total-set, total-most      the rows of all threads
--     held-many, mid-many                   what the header counts at a place
--     held-value, held-thread, held-row     one start value, thread or row more
use Prim.Native.Nat.{ℕ, zero, suc, ◌+◌, ◌-◌, ◌*◌, ◌≤◌, ◌<◌}
use mathlib.Core.List.{List, [], ◌∷◌, ◌++◌, append_assoc}
use mathlib.Core.Bool.{true, false, cond}
use mathlib.Core.Path.{◌≡◌, refl, ap, sym, ◌∙◌}
use native.Mathlib.Omega.{arith}
use native.Mathlib.Decide.{dec_lt}
use mathlib.Core.Logic.{◌≢◌, inl, inr}
use lib.Dec.{eqb}
use lib.ListN.{length, get_or, set, take, drop, replicate, length-append, length-set, length-replicate, get_or-append}
use lib.Seq.{paste, take_all, take_at, drop-append-add, get_or_at, set_at, get_or-set_same, get_or-set_other, set-append_left, length-paste}
use Rattle.rules.specs.Table.{max_rows, total}
use Rattle.rules.specs.Event.{little}
use Rattle.rules.specs.Form.{fields_as_bytes}
use Rattle.rules.specs.Text.{Draft, table_of, filled, with_cell, with_plain, with_thread, with_row, rows_so_far, table_bytes}
use Rattle.rules.proofs.LittleLaws.{little-long}
use Rattle.filling.specs.Tables.{HeldTable, CountsAt, how_many, with_cell_or_plain}

-- Bytes behind those that are there

drop-replicate : (k n : ℕ) → ◌≡◌ {A = List ℕ} (drop k (replicate n 0)) (replicate (n - k) 0)
drop-replicate zero n = let e : n ≡ n - 0 = omega arith in ap (λ (k : ℕ). replicate k 0) e
drop-replicate (suc k) zero = let e : 0 ≡ 0 - suc k = omega arith in ap (λ (j : ℕ). replicate j 0) e
drop-replicate (suc k) (suc n) = let e : n - k ≡ suc n - suc k = omega arith in drop-replicate k n ∙ ap (λ (j : ℕ). replicate j 0) e

pub filled_on : (n : ℕ) (made bytes : List ℕ) → length made + length bytes ≤ n
    → paste (filled n made) (length made) bytes (length bytes) ≡ filled n (made ++ bytes)
filled_on n made bytes h =
    let rest : n - length made - length bytes ≡ n - length (made ++ bytes) = simp length-append (omega arith) in
    ap (λ (a : List ℕ). a ++ take (length bytes) bytes ++ drop (length made + length bytes) (filled n made)) (take_at made (replicate (n - length made) 0) (length made) refl)
    ∙ ap (λ (b : List ℕ). made ++ b ++ drop (length made + length bytes) (filled n made)) (take_all (length bytes) bytes (omega arith))
    ∙ ap (λ (z : List ℕ). made ++ bytes ++ z) (drop-append-add made (replicate (n - length made) 0) (length bytes) ∙ drop-replicate (length bytes) (n - length made) ∙ ap (λ (k : ℕ). replicate k 0) rest)

pub length-filled : (n : ℕ) (bs : List ℕ) → length bs ≤ n → length (filled n bs) ≡ n
length-filled n bs h = length-append bs (replicate (n - length bs) 0) ∙ (omega (arith, length-replicate {A = ℕ} (n - length bs) 0))

-- The rows of all threads

pub total-set : (cs : List ℕ) (i v : ℕ) → i < length cs → total (set cs i v) + get_or cs i 0 ≡ total cs + v
unfolding total
total-set [] i v h = absurd (omega arith)
total-set (c ∷ cs) zero v h = omega arith
total-set (c ∷ cs) (suc i) v h = omega (arith, total-set cs i v (omega arith))

pub total-most : (cs : List ℕ) → ((i : ℕ) → get_or cs i 0 ≤ max_rows) → total cs ≤ max_rows * length cs
unfolding total
total-most [] h = omega arith
total-most (c ∷ cs) h = omega (arith, h 0, total-most cs (λ i. h (suc i)))

pub length-table_of : (m : Draft) → length m.counts ≡ 5 → length (table_of m) ≡ 8 + length m.body
length-table_of m h = simp length-append (omega arith)

-- What a buffer holds

pub so-held : (exit : List ℕ) (room n : ℕ) (m : Draft) → exit ≡ filled room (table_of m) → table_bytes ≤ room → m.threads ≤ 5 → m.cells ≤ 4 → m.plains ≤ 4
    → length m.counts ≡ 5 → ((i : ℕ) → get_or m.counts i 0 ≤ max_rows) → n ≡ 8 + length m.body → length m.body ≡ 8 * (m.cells + m.plains) + 24 * total m.counts
    → HeldTable exit n m
so-held exit room n m e r threads cells plains five few long body =
    let most = total-most m.counts few in
    let fits : length (table_of m) ≤ room = omega (arith, length-table_of m five) in
    let same : length exit ≡ room = ap length e ∙ length-filled room (table_of m) fits in
    record {
      is = e ∙ ap (λ (k : ℕ). filled k (table_of m)) (sym same);
      room = omega arith;
      threads = threads;
      cells = cells;
      plains = plains;
      five = five;
      few = few;
      long = long;
      body = body;
    }

-- the same with more bytes behind
abbrev grown : Draft → List ℕ → Draft
grown m bytes = record { cells = m.cells; plains = m.plains; threads = m.threads; counts = m.counts; body = m.body ++ bytes }

grown-table : (m : Draft) (bytes : List ℕ) → table_of m ++ bytes ≡ table_of (grown m bytes)
grown-table m bytes = ap (λ (x : List ℕ). m.threads ∷ m.cells ∷ x) (append_assoc m.counts (m.plains ∷ m.body) bytes)

-- with another number of plain cells
abbrev plained : Draft → ℕ → Draft
plained m v = record { cells = m.cells; plains = v; threads = m.threads; counts = m.counts; body = m.body }

-- the header's last byte
module _ (room : ℕ) (m : Draft) (five : length m.counts ≡ 5) where
  get-plains : get_or (filled room (table_of m)) 7 0 ≡ m.plains
  get-plains =
      ap (λ (x : List ℕ). get_or x 5 0) (append_assoc m.counts (m.plains ∷ m.body) (replicate (room - length (table_of m)) 0))
      ∙ get_or_at m.counts m.plains (m.body ++ replicate (room - length (table_of m)) 0) 0 5 five

  set-plains : (v : ℕ) → set (filled room (table_of m)) 7 v ≡ filled room (table_of (plained m v))
  set-plains v =
      let zeros : List ℕ = replicate (room - length (table_of m)) 0 in
      let same : length (table_of m) ≡ length (table_of (plained m v)) = length-table_of m five ∙ sym (length-table_of (plained m v) five) in
      ap (λ (x : List ℕ). m.threads ∷ m.cells ∷ x)
      (ap (λ (x : List ℕ). set x 5 v) (append_assoc m.counts (m.plains ∷ m.body) zeros)
      ∙ set_at m.counts m.plains (m.body ++ zeros) v 5 five
      ∙ sym (append_assoc m.counts (v ∷ m.body) zeros))
      ∙ ap (λ (k : ℕ). table_of (plained m v) ++ replicate (room - k) 0) same

module _ (b : List ℕ) (n : ℕ) (m : Draft) (held : HeldTable b n m) where
  pub held-threads : get_or b 0 0 ≡ m.threads
  held-threads = ap (λ (x : List ℕ). get_or x 0 0) held.is

  pub held-cells : get_or b 1 0 ≡ m.cells
  held-cells = ap (λ (x : List ℕ). get_or x 1 0) held.is

  pub held-plains : get_or b 7 0 ≡ m.plains
  held-plains = ap (λ (x : List ℕ). get_or x 7 0) held.is ∙ get-plains (length b) m held.five

  pub held-many : (place : ℕ) → CountsAt place → get_or b place 0 ≡ how_many place m
  held-many place (inl e) = rw e held-cells
  held-many place (inr e) = rw e held-plains

  table-long : length (table_of m) ≡ n
  table-long = length-table_of m held.five ∙ sym held.long

  pub within : n ≤ table_bytes
  within = omega (arith, held.long, held.body, held.cells, held.plains, held.five, total-most m.counts held.few)

  grown-held : (bytes : List ℕ) → n + length bytes ≤ length b → paste b n bytes (length bytes) ≡ filled (length b) (table_of (grown m bytes))
  grown-held bytes h =
      ap (λ (x : List ℕ). paste x n bytes (length bytes)) held.is
      ∙ ap (λ (k : ℕ). paste (filled (length b) (table_of m)) k bytes (length bytes)) (sym table-long)
      ∙ filled_on (length b) (table_of m) bytes (omega (arith, table-long))
      ∙ ap (filled (length b)) (grown-table m bytes)

  -- what the header still says once bytes were put behind
  module _ (bytes mid : List ℕ) (fits : n + length bytes ≤ length b) (p : mid ≡ paste b n bytes (length bytes)) where
    mid-is : mid ≡ filled (length b) (table_of (grown m bytes))
    mid-is = p ∙ grown-held bytes fits

    pub mid-threads : get_or mid 0 0 ≡ m.threads
    mid-threads = ap (λ (x : List ℕ). get_or x 0 0) mid-is

    pub mid-many : (place : ℕ) → CountsAt place → get_or mid place 0 ≡ how_many place m
    mid-many place (inl e) = rw e (ap (λ (x : List ℕ). get_or x 1 0) mid-is)
    mid-many place (inr e) = rw e (ap (λ (x : List ℕ). get_or x 7 0) mid-is ∙ get-plains (length b) (grown m bytes) held.five)

    pub mid-long : length mid ≡ length b
    mid-long = ap length p ∙ length-paste b n bytes (length bytes) fits (omega arith)

  -- a start value more has room
  value-fits : m.cells + m.plains < 8 → n + 8 ≤ length b
  value-fits h = omega (arith, held.room, held.long, held.body, held.five, total-most m.counts held.few)

  pub value_room : (place : ℕ) → CountsAt place → how_many place m < 4 → n + 8 ≤ length b
  value_room place (inl e) h = let few : m.cells < 4 = rw e at h in value-fits (omega (arith, held.plains))
  value_room place (inr e) h = let few : m.plains < 4 = rw e at h in value-fits (omega (arith, held.cells))

  module _ (v : ℕ) (bytes mid : List ℕ) (e : bytes ≡ little 8 v) (p : mid ≡ paste b n bytes (length bytes)) (fits : n + 8 ≤ length b) where
    eight : length (little 8 v) ≡ 8
    eight = little-long 8 v

    value-is : mid ≡ filled (length b) (table_of (grown m (little 8 v)))
    value-is = p ∙ grown-held bytes (omega (arith, ap length e, eight)) ∙ ap (λ (x : List ℕ). filled (length b) (table_of (grown m x))) e

    held-cell : m.cells < 4 → HeldTable (set mid 1 (get_or mid 1 0 + 1)) (n + 8) (with_cell m v)
    held-cell h =
        let size = length-append m.body (little 8 v) in
        so-held (set mid 1 (get_or mid 1 0 + 1)) (length b) (n + 8) (with_cell m v) (ap (λ (x : List ℕ). set x 1 (get_or x 1 0 + 1)) value-is) held.room held.threads (omega arith) held.plains held.five held.few
        (omega (arith, held.long, eight))
        (omega (arith, held.body, eight))

    held_plain : m.plains < 4 → HeldTable (set mid 7 (get_or mid 7 0 + 1)) (n + 8) (with_plain m v)
    held_plain h =
        let size = length-append m.body (little 8 v) in
        so-held (set mid 7 (get_or mid 7 0 + 1)) (length b) (n + 8) (with_plain m v)
        (ap (λ (x : List ℕ). set x 7 (get_or x 7 0 + 1)) value-is
        ∙ ap (λ (k : ℕ). set (filled (length b) (table_of (grown m (little 8 v)))) 7 (k + 1)) (get-plains (length b) (grown m (little 8 v)) held.five)
        ∙ set-plains (length b) (grown m (little 8 v)) held.five (m.plains + 1))
        held.room held.threads held.cells (omega arith) held.five held.few
        (omega (arith, held.long, eight))
        (omega (arith, held.body, eight))

    pub held-value : (place : ℕ) → CountsAt place → how_many place m < 4 → HeldTable (set mid place (get_or mid place 0 + 1)) (n + 8) (with_cell_or_plain place m v)
    held-value place (inl e) h = rw e (held-cell (rw e at h))
    held-value place (inr e) h = rw e (held_plain (rw e at h))

  pub held-thread : m.threads < 5 → HeldTable (set b 0 (get_or b 0 0 + 1)) n (with_thread m)
  held-thread h =
      so-held (set b 0 (get_or b 0 0 + 1)) (length b) n (with_thread m) (ap (λ (x : List ℕ). set x 0 (get_or x 0 0 + 1)) held.is) held.room (omega arith) held.cells held.plains held.five held.few held.long held.body

pub counts-low : (place : ℕ) → CountsAt place → place ≤ 7
counts-low place (inl e) = omega arith
counts-low place (inr e) = omega arith

pub more-many : (place : ℕ) (m : Draft) (v : ℕ) → how_many place (with_cell_or_plain place m v) ≡ how_many place m + 1
more-many place m v =
    elim (eqb place 1) as (λ t. cond t (cond t (with_cell m v) (with_plain m v)).cells (cond t (with_cell m v) (with_plain m v)).plains ≡ cond t m.cells m.plains + 1) [
      | true ↦ refl
      | false ↦ refl
    ]

-- A row more

abbrev counted : Draft → List ℕ → Draft
counted m counts = record { cells = m.cells; plains = m.plains; threads = m.threads; counts = counts; body = m.body }

module _ (room : ℕ) (m : Draft) (i : ℕ) (h : i < length m.counts) where
  zeros : List ℕ
  zeros = replicate (room - length (table_of m)) 0

  shorter : i < length (m.counts ++ (m.plains ∷ m.body))
  shorter = omega (arith, length-append m.counts (m.plains ∷ m.body))

  get-count : get_or (filled room (table_of m)) (suc (suc i)) 0 ≡ get_or m.counts i 0
  get-count = get_or-append (m.counts ++ (m.plains ∷ m.body)) (replicate (room - length (table_of m)) 0) 0 i shorter ∙ get_or-append m.counts (m.plains ∷ m.body) 0 i h

  set-count : (v : ℕ) → set (filled room (table_of m)) (suc (suc i)) v ≡ filled room (table_of (counted m (set m.counts i v)))
  set-count v =
      let same : length (table_of m) ≡ length (table_of (counted m (set m.counts i v))) =
      omega (arith, length-append m.counts (m.plains ∷ m.body), length-append (set m.counts i v) (m.plains ∷ m.body), length-set m.counts i v) in
      ap (λ (x : List ℕ). m.threads ∷ m.cells ∷ x) (set-append_left (m.counts ++ (m.plains ∷ m.body)) (replicate (room - length (table_of m)) 0) i v shorter)
      ∙ ap (λ (x : List ℕ). m.threads ∷ m.cells ∷ (x ++ replicate (room - length (table_of m)) 0)) (set-append_left m.counts (m.plains ∷ m.body) i v h)
      ∙ ap (λ (k : ℕ). table_of (counted m (set m.counts i v)) ++ replicate (room - k) 0) same

pub length-row_bytes : (fields : List ℕ) → length fields ≡ 9 → length (fields_as_bytes fields) ≡ 24
unfolding fields_as_bytes little
length-row_bytes (f0 ∷ f1 ∷ f2 ∷ f3 ∷ f4 ∷ f5 ∷ f6 ∷ f7 ∷ f8 ∷ []) h = refl
length-row_bytes [] h = absurd (omega arith)
length-row_bytes (f0 ∷ []) h = absurd (omega arith)
length-row_bytes (f0 ∷ f1 ∷ []) h = absurd (omega arith)
length-row_bytes (f0 ∷ f1 ∷ f2 ∷ []) h = absurd (omega arith)
length-row_bytes (f0 ∷ f1 ∷ f2 ∷ f3 ∷ []) h = absurd (omega arith)
length-row_bytes (f0 ∷ f1 ∷ f2 ∷ f3 ∷ f4 ∷ []) h = absurd (omega arith)
length-row_bytes (f0 ∷ f1 ∷ f2 ∷ f3 ∷ f4 ∷ f5 ∷ []) h = absurd (omega arith)
length-row_bytes (f0 ∷ f1 ∷ f2 ∷ f3 ∷ f4 ∷ f5 ∷ f6 ∷ []) h = absurd (omega arith)
length-row_bytes (f0 ∷ f1 ∷ f2 ∷ f3 ∷ f4 ∷ f5 ∷ f6 ∷ f7 ∷ []) h = absurd (omega arith)
length-row_bytes (f0 ∷ f1 ∷ f2 ∷ f3 ∷ f4 ∷ f5 ∷ f6 ∷ f7 ∷ f8 ∷ f9 ∷ fs) h = absurd (omega arith)

module _ (b : List ℕ) (n : ℕ) (m : Draft) (held : HeldTable b n m) (some : 1 ≤ get_or b 0 0) where
  pub begun : 1 ≤ m.threads
  begun = omega (arith, held-threads b n m held)

  last : m.threads - 1 < length m.counts
  last = omega (arith, held.five, held.threads, begun)

  pub count-there : get_or b (1 + get_or b 0 0) 0 ≡ rows_so_far m
  count-there =
      let place : 1 + get_or b 0 0 ≡ suc (suc (m.threads - 1)) = omega (arith, held-threads b n m held, begun) in
      ap (λ (k : ℕ). get_or b k 0) place
      ∙ ap (λ (x : List ℕ). get_or x (suc (suc (m.threads - 1))) 0) held.is
      ∙ get-count (length b) m (m.threads - 1) last

module _ (b : List ℕ) (n : ℕ) (m : Draft) (held : HeldTable b n m) (some : 1 ≤ get_or b 0 0) (fewer : get_or b (1 + get_or b 0 0) 0 < max_rows) where
  row-some : 1 ≤ m.threads
  row-some = begun b n m held some

  inside : m.threads - 1 < length m.counts
  inside = last b n m held some

  pub row-fewer : rows_so_far m < max_rows
  row-fewer = omega (arith, count-there b n m held some)

  other : (i : ℕ) → i ≢ m.threads - 1 → get_or (set m.counts (m.threads - 1) (rows_so_far m + 1)) i 0 ≤ max_rows
  other i n = omega (arith, get_or-set_other m.counts (m.threads - 1) i (rows_so_far m + 1) 0 n, held.few i)

  few-more : (i : ℕ) → get_or (set m.counts (m.threads - 1) (rows_so_far m + 1)) i 0 ≤ max_rows
  few-more i =
      elim (dec_lt i (m.threads - 1)) [
        | yes l ↦ other i (λ (z : i ≡ m.threads - 1). omega arith)
        | no l ↦
            elim (dec_lt (m.threads - 1) i) [
              | yes g ↦ other i (λ (z : i ≡ m.threads - 1). omega arith)
              | no g ↦
                  let e : i ≡ m.threads - 1 = omega arith in
                  rw e (omega (arith, get_or-set_same m.counts (m.threads - 1) (rows_so_far m + 1) 0 inside, row-fewer))
            ]
      ]

  total-more : total (set m.counts (m.threads - 1) (rows_so_far m + 1)) ≡ total m.counts + 1
  total-more = omega (arith, total-set m.counts (m.threads - 1) (rows_so_far m + 1) inside)

  five-more : length (set m.counts (m.threads - 1) (rows_so_far m + 1)) ≡ 5
  five-more = length-set m.counts (m.threads - 1) (rows_so_far m + 1) ∙ held.five

  pub row_room : n + 24 ≤ length b
  row_room = omega (arith, held.room, held.long, held.body, held.cells, held.plains, five-more, total-more, total-most (set m.counts (m.threads - 1) (rows_so_far m + 1)) few-more)

  pub mid-count : (bytes mid : List ℕ) → n + length bytes ≤ length b → mid ≡ paste b n bytes (length bytes) → get_or mid (1 + get_or mid 0 0) 0 ≡ rows_so_far m
  mid-count bytes mid fits p =
      let at : 1 + get_or mid 0 0 ≡ suc (suc (m.threads - 1)) = omega (arith, mid-threads b n m held bytes mid fits p, row-some) in
      ap (λ (k : ℕ). get_or mid k 0) at
      ∙ ap (λ (x : List ℕ). get_or x (suc (suc (m.threads - 1))) 0) (mid-is b n m held bytes mid fits p)
      ∙ get-count (length b) (grown m bytes) (m.threads - 1) inside

  pub held-row : (fields bytes mid : List ℕ) → bytes ≡ fields_as_bytes fields → length fields ≡ 9 → mid ≡ paste b n bytes (length bytes)
      → HeldTable (set mid (1 + get_or mid 0 0) (get_or mid (1 + get_or mid 0 0) 0 + 1)) (n + 24) (with_row m fields)
  held-row fields bytes mid e nine p =
      let long : length (fields_as_bytes fields) ≡ 24 = length-row_bytes fields nine in
      let all : length bytes ≡ 24 = ap length e ∙ long in
      let g : Draft = grown m (fields_as_bytes fields) in
      let is : mid ≡ filled (length b) (table_of (grown m (fields_as_bytes fields))) = p ∙ grown-held b n m held bytes (omega (arith, row_room)) ∙ ap (λ (x : List ℕ). filled (length b) (table_of (grown m x))) e in
      let at : 1 + get_or mid 0 0 ≡ suc (suc (m.threads - 1)) = ap (λ (x : List ℕ). 1 + get_or x 0 0) is ∙ (omega (arith, row-some)) in
      let exit : set mid (1 + get_or mid 0 0) (get_or mid (1 + get_or mid 0 0) 0 + 1) ≡ filled (length b) (table_of (with_row m fields)) =
      ap (λ (k : ℕ). set mid k (get_or mid k 0 + 1)) at
      ∙ ap (λ (x : List ℕ). set x (suc (suc (m.threads - 1))) (get_or x (suc (suc (m.threads - 1))) 0 + 1)) is
      ∙ ap (λ (v : ℕ). set (filled (length b) (table_of (grown m (fields_as_bytes fields)))) (suc (suc (m.threads - 1))) (v + 1)) (get-count (length b) (grown m (fields_as_bytes fields)) (m.threads - 1) inside)
      ∙ set-count (length b) (grown m (fields_as_bytes fields)) (m.threads - 1) inside (rows_so_far m + 1) in
      let size = length-append m.body (fields_as_bytes fields) in
      so-held _ (length b) (n + 24) (with_row m fields) exit held.room held.threads held.cells held.plains five-more few-more
      (omega (arith, held.long))
      (omega (arith, held.body, total-more))
