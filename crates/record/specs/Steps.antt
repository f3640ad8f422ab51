-- What is open at a record, and the record at its next choice, as each function answers it. Assumes nothing.
--     Visits, Moves, Sets          by its kind
--     spent, branch_stepped         a branch that was asked for its next choice
--     OpenAt, StepsAt              a record of any kind
use Rattle.std.specs.Prelude.{ℕ, ◌+◌, ◌≤◌, List, Bool, cond, ◌≡◌, ltb, eqb}
use Rattle.rules.specs.Path.{Branch, schedule, load, spurious, encoded, with_states, pendings, left, turned, turned_branch, open_at}
use Rattle.rules.specs.Records.{with_record}
use Rattle.record.specs.Fields.{record_byte, with_record_byte, states_at, with_states_at}
use Rattle.record.specs.Stands.{BranchStands}

-- a schedule's record: the Active is left in any case
pub record Visits (entry exit : List ℕ) (at : ℕ) (r : Bool) : Type 0 where
  pub said : r ≡ ltb 0 (pendings (states_at entry at))
  pub now : exit ≡ with_states_at entry at (turned (states_at entry at))

-- a load's: pos and len are its bytes 9 and 10
pub record Moves (entry exit : List ℕ) (at : ℕ) (r : Bool) : Type 0 where
  pub said : r ≡ ltb (record_byte entry at 9 + 1) (record_byte entry at 10)
  pub now : exit ≡ cond r (with_record_byte entry at 9 (record_byte entry at 9 + 1)) entry

-- a spurious branch's: the bit is its byte 2
pub record Sets (entry exit : List ℕ) (at : ℕ) (r : Bool) : Type 0 where
  pub said : r ≡ eqb (record_byte entry at 2) 0
  pub now : exit ≡ cond r (with_record_byte entry at 2 1) entry

pub record OpenAt (path : List ℕ) (at r : ℕ) : Type 0 where
  pub few : r ≤ 6
  pub is : (b : Branch) → BranchStands path at b → r ≡ open_at b

-- a branch that was asked for its next choice and had none, on its way to be dropped
unfoldable pub spent : Branch → Branch
spent (schedule s) = schedule (with_states s (cond s.exploring (left s.states) s.states))
spent (load l) = load l
spent (spurious u) = spurious u

unfoldable pub branch_stepped : Branch → Branch
branch_stepped b = cond (ltb 0 (open_at b)) (turned_branch b) (spent b)

pub record StepsAt (entry exit : List ℕ) (at : ℕ) (r : Bool) : Type 0 where
  pub said : (b : Branch) → BranchStands entry at b → r ≡ ltb 0 (open_at b)
  pub puts : (b : Branch) → BranchStands entry at b → exit ≡ with_record entry at (encoded (branch_stepped b))
