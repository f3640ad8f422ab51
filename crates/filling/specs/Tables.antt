-- A table that grows in a buffer. Assumes nothing.
--     HeldTable                       the buffer is the table so far, then zeros, and the table is within its limits
--     HoldsTable                      it is so for some table
--     CountsAt, how_many               where the header counts start values, how many there are;
--     with_cell_or_plain                 and one more
--     Grows                           from any table that it held, one step of the definition
--     Blank                           zeros
use Rattle.std.specs.Prelude.{ℕ, ◌+◌, ◌*◌, ◌≤◌, ◌<◌, List, cond, ◌⊎◌, ◌≡◌, eqb, length, get_or, replicate}
use Rattle.rules.specs.Table.{max_threads, max_cells, max_plains, max_rows, header_bytes, value_bytes, row_bytes, total}
use Rattle.rules.specs.Text.{Draft, with_cell, with_plain, table_of, filled, table_bytes}

pub record HeldTable (buffer : List ℕ) (n : ℕ) (m : Draft) : Type 0 where
  pub is : buffer ≡ filled (length buffer) (table_of m)
  pub room : table_bytes ≤ length buffer
  pub threads : m.threads ≤ max_threads
  pub cells : m.cells ≤ max_cells
  pub plains : m.plains ≤ max_plains
  pub five : length m.counts ≡ max_threads
  pub few : (i : ℕ) → get_or m.counts i 0 ≤ max_rows
  pub long : n ≡ header_bytes + length m.body
  pub body : length m.body ≡ value_bytes * (m.cells + m.plains) + row_bytes * total m.counts

pub record HoldsTable (buffer : List ℕ) (n : ℕ) : Type 0 where
  pub made : Draft
  pub held : HeldTable buffer n made

-- the header counts cells at its second byte, and plain cells at its last
abbrev pub CountsAt : ℕ → Type 0
CountsAt place = (place ≡ 1) ⊎ (place ≡ 7)

abbrev pub how_many : ℕ → Draft → ℕ
how_many place m = cond (eqb place 1) m.cells m.plains

abbrev pub with_cell_or_plain : ℕ → Draft → ℕ → Draft
with_cell_or_plain place m v = cond (eqb place 1) (with_cell m v) (with_plain m v)

abbrev pub Grows : List ℕ → List ℕ → ℕ → ℕ → (Draft → Draft) → Type 0
Grows entry exit n more step = (m : Draft) → HeldTable entry n m → HeldTable exit more (step m)

-- a row more has room: there is a thread, and it has less than all its rows
pub record RowFits (buffer : List ℕ) (n : ℕ) : Type 0 where
  pub holds : HoldsTable buffer n
  pub some : 1 ≤ get_or buffer 0 0
  pub fewer : get_or buffer (1 + get_or buffer 0 0) 0 < max_rows

-- zeros, so many at least
pub record Blank (least : ℕ) (buffer : List ℕ) : Type 0 where
  pub is : buffer ≡ replicate (length buffer) 0
  pub room : least ≤ length buffer
