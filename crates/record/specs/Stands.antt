-- Which branch the record at a position is. Assumes nothing.
--     shaped        a branch that 16 bytes can say: a schedule has five states, a load at most seven values
--     BranchStands  the record's bytes are the encoded branch
use Rattle.std.specs.Prelude.{ℕ, ◌+◌, ◌*◌, ◌≤◌, List, Bool, true, ◌≡◌, eqb, leb, length}
use Rattle.rules.specs.Path.{Branch, schedule, load, spurious, encoded}
use Rattle.rules.specs.Records.{record_at}

abbrev pub shaped : Branch → Bool
shaped (schedule s) = eqb (length s.states) 5
shaped (load l) = leb (length l.values) 7
shaped (spurious u) = true

pub record BranchStands (bytes : List ℕ) (at : ℕ) (b : Branch) : Type 0 where
  pub fits : 16 * at + 16 ≤ length bytes
  pub shape : shaped b ≡ true
  pub same : record_at bytes at ≡ encoded b
