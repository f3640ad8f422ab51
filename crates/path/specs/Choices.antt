-- What the branch at a position chooses, as each function answers it. Where there is no record of the kind that is asked for,
-- the answer is None whatever the bytes are. Assumes nothing.
--     ReadsSlot                what a function that asks a load promises
--     said_by, Says             the same for a spurious branch
--     chosen_of, Chooses        the same for a schedule
use Rattle.std.specs.Prelude.{ℕ, ◌+◌, ◌*◌, ◌<◌, List, Bool, false, ◌≡◌, eqb, length, get_or, Option, Some, None}
use Rattle.rules.specs.Path as rules
use Rattle.record.specs.Answers.{OfferedSlot}
use Rattle.record.specs.Choices.{offered_by}
use Rattle.record.specs.Fields.{record_byte}
use Rattle.record.specs.declared.Offered.{Offered}
use Rattle.record.specs.Places.{found_as}
use Rattle.path.specs.Answers.{ChosenThread}
use Rattle.path.specs.Holds.{Holds}

pub record ReadsSlot (path : List ℕ) (pos : ℕ) (r : Option Offered) : Type 0 where
  pub slot : OfferedSlot r
  pub past : length path < 16 * pos + 16 → r ≡ None
  pub other : eqb (record_byte path pos 0) 2 ≡ false → r ≡ None
  pub is : (bs : List rules.Branch) → Holds path bs → r ≡ offered_by (get_or bs pos rules.no_branch)

unfoldable pub said_by : rules.Branch → Option Bool
said_by (rules.schedule s) = None
said_by (rules.load l) = None
said_by (rules.spurious u) = Some u.bit

pub record Says (path : List ℕ) (pos : ℕ) (r : Option Bool) : Type 0 where
  pub past : length path < 16 * pos + 16 → r ≡ None
  pub other : eqb (record_byte path pos 0) 3 ≡ false → r ≡ None
  pub is : (bs : List rules.Branch) → Holds path bs → r ≡ said_by (get_or bs pos rules.no_branch)

abbrev pub chosen_of : rules.ScheduleAt → Option (Option ℕ)
chosen_of rules.none = None
chosen_of (rules.at k s) = Some (found_as (rules.active_in s.states))

-- the Active thread of the branch at a position
pub record Chooses (path : List ℕ) (pos : ℕ) (r : Option (Option ℕ)) : Type 0 where
  pub within : ChosenThread r
  pub past : length path < 16 * pos + 16 → r ≡ None
  pub other : eqb (record_byte path pos 0) 1 ≡ false → r ≡ None
  pub says : (bs : List rules.Branch) → Holds path bs → r ≡ chosen_of (rules.schedule_at bs pos)
