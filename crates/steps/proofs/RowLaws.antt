-- The laws of a thread's rows, for any bytes: how many it has, and what one does. Assumes nothing.
--     count_at, count_past, count_none      a row count in the header, past the bytes, past the threads
--     row-said, row-none                    a row by the table's shape
use Prim.Native.Nat.{ℕ, ◌+◌, ◌≤◌, ◌<◌}
use mathlib.Core.List.{List}
use mathlib.Core.Bool.{Bool, true, false, cond, ◌&&◌}
use mathlib.Core.Path.{◌≡◌, refl, sym, ◌∙◌}
use native.Mathlib.Omega.{arith}
use native.Mathlib.Decide.{dec_lt}
use lib.Dec.{leb, ltb}
use lib.ListN.{length, get_or, take, drop, length-take, get_or-eq_default}
use lib.Seq.{get_or-take, get_or-drop}
use borrow.Author.Tests.{lt-ltb, le-ltb, lt-leb}
use Rattle.rules.specs.Machine.{row_of, row_count}
use Rattle.rules.specs.Table.{Op, Decoded, refused, header_bytes, row_bytes, max_threads, max_cells, max_plains, size_of, counts_of, shape_of, no_row, row_at, Room, row_decoded, op_at}
use Rattle.std.specs.Prelude.{Option}
use Rattle.decode.specs.declared.Op as code
use Rattle.decode.specs.Ops.{decoded_of}
use Rattle.table.proofs.ShapeLaws.{shape-threads, shape-cells, shape-plains, shape-rows, shape-first}
use Rattle.table.specs.Answers.{room_in, OpAt}
use Rattle.steps.specs.Entries.{program, row_says}

module _ (t : List ℕ) {i thread : ℕ} (same : i ≡ thread) where
  counted : thread < max_threads → get_or t (2 + i) 0 ≡ row_count (program t) thread
  unfolding counts_of
  counted h = rw (get_or-take, get_or-drop, same)

  pub count_at : i < max_threads → get_or t (2 + i) 0 ≡ row_count (program t) thread
  count_at h = counted (omega arith)

  pub count_past : i < max_threads → length t ≤ 2 + i → 0 ≡ row_count (program t) thread
  count_past h l = sym (get_or-eq_default t 0 l) ∙ counted (omega arith)

  pub count_none : max_threads ≤ i → 0 ≡ row_count (program t) thread
  unfolding counts_of
  count_none h =
      let few : length (take max_threads (drop 2 t)) ≤ thread = omega (arith, length-take max_threads (drop 2 t)) in
      sym (get_or-eq_default (take max_threads (drop 2 t)) 0 few)

-- a table that is too short for a header holds no row
and-false : (b : Bool) → b && false ≡ false
and-false true = refl
and-false false = refl

cond_same : (b : Bool) (d : Decoded Op) → cond b d d ≡ d
cond_same true d = refl
cond_same false d = refl

module _ (t : List ℕ) (short : length t < header_bytes) (room : Room) (index : ℕ) where
  no-row : (values : ℕ) → row_at t values index ≡ no_row
  unfolding row_at
  no-row values =
      let e : leb (size_of values index + row_bytes) (length t) ≡ false = lt-leb (size_of values index + row_bytes) (length t) (omega arith) in
      rw (e, and-false)

  short-refused : op_at t room index ≡ refused
  unfolding op_at row_decoded
  short-refused =
      rw (no-row (room.cells + room.plains))
      (cond_same (leb room.threads max_threads && leb room.cells max_cells && leb room.plains max_plains) refused)

-- one that has a header has its numbers in its shape
module _ (t : List ℕ) (long : header_bytes ≤ length t) where
  long-said : (i k : ℕ) → i < max_threads → op_at t (room_in (shape_of t) i k) (get_or (shape_of t) (7 + i) 0 + k) ≡ row_of (program t) i k
  long-said i k h =
      rw (shape-rows t long i h, shape-first t long i h, shape-plains t long, shape-threads t long, shape-cells t long)

shape-said : (t : List ℕ) (i k : ℕ) → i < max_threads → op_at t (room_in (shape_of t) i k) (get_or (shape_of t) (7 + i) 0 + k) ≡ row_of (program t) i k
shape-said t i k h = elim (dec_lt (length t) header_bytes) [
  | yes l ↦ short-refused t l _ _ ∙ sym (short-refused t l _ _)
  | no l ↦ long-said t (omega arith) i k h
]

module _ (t : List ℕ) {i k thread number : ℕ} (same : i ≡ thread) (also : k ≡ number) where
  pub row-said : {s : List ℕ} {d : Option code.Op} → s ≡ shape_of t → i < max_threads →
      OpAt t (room_in s i k) (get_or s (7 + i) 0 + k) d → decoded_of d ≡ row_says t thread number
  unfolding row_says
  row-said e h o =
      let l : ltb thread max_threads ≡ true = lt-ltb thread max_threads (omega arith) in
      rw (l, ← same, ← also) (o.is ∙ rw e (shape-said t i k h))

pub row-none : (t : List ℕ) {i thread : ℕ} (number : ℕ) → i ≡ thread → max_threads ≤ i → refused ≡ row_says t thread number
unfolding row_says
row-none t {i} {thread} number same h = rw (le-ltb thread max_threads (omega arith))
