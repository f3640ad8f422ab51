-- Laws for what stands at a place, where the table holds it and where not. Assumes nothing.
use Prim.Native.Nat.{ℕ, ◌+◌, ◌*◌, ◌≤◌, ◌<◌}
use mathlib.Core.List.{List}
use mathlib.Core.Path.{◌≡◌, refl, subst, ◌∙◌}
use native.Mathlib.Omega.{arith}
use lib.ListN.{length}
use borrow.Author.Tests.{lt-ltb, le-ltb, le-leb, lt-leb}
use Rattle.rules.specs.Table.{max_cells, max_plains, max_values, all_rows, Room, room_of, threads_of, cells_of, plains_of, header_bytes, value_bytes, row_bytes, size_of, u64_at, start_value, row_from, no_row, row_at, max_threads, Row, refused, row_decoded, op_at}
use Rattle.table.specs.Answers.{PlaceOf}
use Rattle.std.specs.Prelude.{Option, Some, None}

module _ (t : List ℕ) (i : ℕ) where
  pub value-held : i < max_values → header_bytes + value_bytes * i + value_bytes ≤ length t →
      u64_at t (header_bytes + value_bytes * i) ≡ start_value t i
  unfolding start_value
  value-held h l = rw (lt-ltb i max_values h, le-leb (header_bytes + value_bytes * i + value_bytes) (length t) l)

  pub value-short : i < max_values → length t < header_bytes + value_bytes * i + value_bytes → 0 ≡ start_value t i
  unfolding start_value
  value-short h l = rw (lt-ltb i max_values h, lt-leb (header_bytes + value_bytes * i + value_bytes) (length t) l)

  pub value_none : max_values ≤ i → 0 ≡ start_value t i
  unfolding start_value
  value_none h = rw (le-ltb i max_values h)

module _ (t : List ℕ) (values index : ℕ) where
  pub row-held : values ≤ max_values → index < all_rows → size_of values index + row_bytes ≤ length t →
      row_from t (size_of values index) ≡ row_at t values index
  unfolding row_at
  row-held h k l =
      rw (le-leb values max_values h, lt-ltb index all_rows k, le-leb (size_of values index + row_bytes) (length t) l)

  pub row-short : values ≤ max_values → index < all_rows → length t < size_of values index + row_bytes → no_row ≡ row_at t values index
  unfolding row_at
  row-short h k l =
      rw (le-leb values max_values h, lt-ltb index all_rows k, lt-leb (size_of values index + row_bytes) (length t) l)

  pub row-past : values ≤ max_values → all_rows ≤ index → no_row ≡ row_at t values index
  unfolding row_at
  row-past h k = rw (le-leb values max_values h, le-ltb index all_rows k)

  pub row-many : max_values < values → no_row ≡ row_at t values index
  unfolding row_at
  row-many h = rw (lt-leb values max_values h)

module _ (t : List ℕ) (room : Room) (index : ℕ) where
  -- a row that is read is decoded; what stands for one that the table does not hold is refused
  op-read : room.threads ≤ max_threads → room.cells ≤ max_cells → room.plains ≤ max_plains → {row : Row} →
      row ≡ row_at t (room.cells + room.plains) index → row_decoded room row ≡ op_at t room index
  unfolding op_at
  op-read h k l e = rw (le-leb room.threads max_threads h, le-leb room.cells max_cells k, le-leb room.plains max_plains l, ← e)

  no-row : refused ≡ row_decoded room no_row
  unfolding row_decoded
  no-row = refl

  op-no_row : room.threads ≤ max_threads → room.cells ≤ max_cells → room.plains ≤ max_plains →
      no_row ≡ row_at t (room.cells + room.plains) index → refused ≡ op_at t room index
  op-no_row h k l e = no-row ∙ op-read h k l e

  pub place-held : room.threads ≤ max_threads → room.cells ≤ max_cells → room.plains ≤ max_plains → index < all_rows →
      size_of (room.cells + room.plains) index + row_bytes ≤ length t → PlaceOf t room index (Some (size_of (room.cells + room.plains) index))
  place-held h k l i m = (m, op-read h k l (row-held t (room.cells + room.plains) index (omega arith) i m))

  pub place_short : room.threads ≤ max_threads → room.cells ≤ max_cells → room.plains ≤ max_plains → index < all_rows →
      length t < size_of (room.cells + room.plains) index + row_bytes → PlaceOf t room index None
  place_short h k l i m = op-no_row h k l (row-short t (room.cells + room.plains) index (omega arith) i m)

  pub place-past : room.threads ≤ max_threads → room.cells ≤ max_cells → room.plains ≤ max_plains → all_rows ≤ index →
      PlaceOf t room index None
  place-past h k l i = op-no_row h k l (row-past t (room.cells + room.plains) index (omega arith) i)

  pub place-filled : room.threads ≤ max_threads → room.cells ≤ max_cells → max_plains < room.plains → PlaceOf t room index None
  unfolding op_at
  place-filled h k l = rw (le-leb room.threads max_threads h, le-leb room.cells max_cells k, lt-leb room.plains max_plains l)

  pub place-crowded : room.threads ≤ max_threads → max_cells < room.cells → PlaceOf t room index None
  unfolding op_at
  place-crowded h k = rw (le-leb room.threads max_threads h, lt-leb room.cells max_cells k)

  pub place_none : max_threads < room.threads → PlaceOf t room index None
  unfolding op_at
  place_none h = rw (lt-leb room.threads max_threads h)

  -- a place that was taken apart
  module _ {x : Option ℕ} (p : PlaceOf t room index x) where
    pub op-nowhere : x ≡ None → refused ≡ op_at t room index
    op-nowhere e = subst (PlaceOf t room index) e p

    pub op-there : {at : ℕ} → x ≡ Some at → PlaceOf t room index (Some at)
    op-there e = subst (PlaceOf t room index) e p

-- the room that a header gives
abbrev room : ℕ → ℕ → ℕ → ℕ → ℕ → Room
room threads cells plains rows row = record { threads = threads; cells = cells; plains = plains; rows = rows; row = row }

pub room-made : (t : List ℕ) (rows row : ℕ) {threads cells plains : ℕ} → threads ≡ threads_of t → cells ≡ cells_of t → plains ≡ plains_of t →
    room threads cells plains rows row ≡ room_of t rows row
room-made t rows row p q l = rw (p, q, l)
