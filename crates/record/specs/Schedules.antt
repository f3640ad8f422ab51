-- What the functions on a schedule's record promise, by the definition. Assumes nothing.
--     byte_of, position_of               a thread and a position, as the record has them
--     prev_in, PrevOf, PreemptionsOf    what is read of it
--     explored_at, Explores, ExploresAll, RecordMarked     marks made in it, and how many choices that opened
--     initial_at                        what a new one's initial active is
use Rattle.std.specs.Prelude.{ℕ, ◌+◌, ◌*◌, ◌≤◌, List, map, cond, ◌&&◌, ◌≡◌, ltb, eqb, get_or, set, Option, Some, None, unwrap_or, ◌%◌}
use Rattle.rules.specs.Path as rules
use Rattle.rules.specs.Path.{Schedule, no_thread, no_prev, active_in, or_none, marked, made_pending}
use Rattle.record.specs.Fields.{record_byte, states_at, with_states_at}
use Rattle.record.specs.Places.{FoundBelow}
use Rattle.record.specs.Stands.{BranchStands}

-- a thread's index as a record's byte, if it is one of the five
abbrev pub byte_of : Option ℕ → ℕ
byte_of None = no_thread
byte_of (Some t) = cond (ltb t 5) t no_thread

-- a position as a record's prev
abbrev pub position_of : Option ℕ → ℕ
position_of prev = unwrap_or prev no_prev

-- the position that a record's prev names
abbrev pub position_at : List ℕ → ℕ → ℕ
position_at path at = record_byte path at 9 + 256 * record_byte path at 10

-- the schedule there, if it is one and stands below
unfoldable pub prev_in : List ℕ → ℕ → Option ℕ
prev_in path at =
    cond (ltb (position_at path at) at && eqb (record_byte path (position_at path at) 0) 1) (Some (position_at path at)) None

-- the schedule before the one at a position
pub record PrevOf (path : List ℕ) (at : ℕ) (r : Option ℕ) : Type 0 where
  pub below : FoundBelow at r
  pub is : r ≡ prev_in path at

-- the preemptions up to the schedule at a position and with it
pub record PreemptionsOf (path : List ℕ) (at r : ℕ) : Type 0 where
  pub few : r ≤ 256
  pub says : (s : Schedule) → BranchStands path at (rules.schedule s) → r ≡ rules.preemptions_with s

-- one thread explored
abbrev pub explored_at : List ℕ → ℕ → List ℕ
explored_at states t = set states t (rules.skip_to_pending (get_or states t rules.visited))

-- one thread of the record at a position explored
pub record Explores (entry exit : List ℕ) (at t r : ℕ) : Type 0 where
  pub few : r ≤ 1
  pub opens : r ≡ made_pending (states_at entry at) (explored_at (states_at entry at) t)
  pub puts : exit ≡ with_states_at entry at (explored_at (states_at entry at) t)

-- all of its threads
pub record ExploresAll (entry exit : List ℕ) (at r : ℕ) : Type 0 where
  pub few : r ≤ 5
  pub opens : r ≡ made_pending (states_at entry at) (map rules.skip_to_pending (states_at entry at))
  pub puts : exit ≡ with_states_at entry at (map rules.skip_to_pending (states_at entry at))

-- a thread marked in the record at a position
pub record RecordMarked (entry exit : List ℕ) (at t r : ℕ) : Type 0 where
  pub few : r ≤ 5
  pub opens : r ≡ made_pending (states_at entry at) (marked (states_at entry at) t)
  pub puts : exit ≡ with_states_at entry at (marked (states_at entry at) t)

-- the Active of the record at a position, unless the record before has another
abbrev pub initial_at : List ℕ → ℕ → Option ℕ → ℕ
initial_at path at None = or_none (active_in (states_at path at))
initial_at path at (Some p) =
    cond (eqb (or_none (active_in (states_at path at))) (or_none (active_in (states_at path p)))) (or_none (active_in (states_at path at))) no_thread
