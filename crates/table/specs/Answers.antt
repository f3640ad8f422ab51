-- What the answers of this crate stand for in the definition, and what is promised of a row. Assumes nothing.
use Rattle.std.specs.Prelude.{ℕ, ◌+◌, ◌≤◌, List, ◌≡◌, length, get_or, Option, Some, None, Result, Ok, Err}
use Rattle.rules.specs.Table as rules
use Rattle.decode.specs.declared.Op.{Op}
use Rattle.decode.specs.Ops.{decoded_of, OpWithin}
use Rattle.table.specs.declared.BadTable.{BadTable}
use Rattle.table.specs.declared.BadTable.TheVariants.{Header, Row}

abbrev pub judged_of : Result (Unit {0}) BadTable → rules.Judged
judged_of (Ok done) = rules.good
judged_of (Err Header) = rules.bad_header
judged_of (Err (Row thread row)) = rules.bad_row thread row

-- where a row stands: there it is what the definition decodes; a row that stands nowhere is refused
abbrev pub PlaceOf : List ℕ → rules.Room → ℕ → Option ℕ → Type 0
PlaceOf t room index None = rules.refused ≡ rules.op_at t room index
PlaceOf t room index (Some at) =
    (at + rules.row_bytes ≤ length t) × (rules.row_decoded room (rules.row_from t at) ≡ rules.op_at t room index)

-- the room of a thread's row, by the shape
abbrev pub room_in : List ℕ → ℕ → ℕ → rules.Room
room_in shape thread row = record {
  threads = get_or shape 0 0;
  cells = get_or shape 1 0;
  plains = get_or shape 12 0;
  rows = get_or shape (2 + thread) 0;
  row = row;
}

-- what is decoded is what the definition says, and names only what there is
pub record OpAt (t : List ℕ) (room : rules.Room) (index : ℕ) (r : Option Op) : Type 0 where
  pub is : decoded_of r ≡ rules.op_at t room index
  pub within : OpWithin r
