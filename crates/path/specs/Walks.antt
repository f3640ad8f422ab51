-- What the functions that walk through a path's schedules promise, by the definition. Assumes nothing.
--     schedule_at_as                         the definition's `ScheduleAt` as the code's
--     HoldsAt, StandsIn                     a schedule that stands in a path
--     LastOf, ExploringFrom, SwitchFrom     which schedule is found
--     PreemptionsBefore                     the preemptions up to it
--     PathMarked, MarksAt, MarksBefore, Backtracks      the marks that are made
use Rattle.std.specs.Prelude.{ℕ, ◌+◌, ◌≤◌, List, ◌≡◌, length, get_or, Option, Some, None}
use Rattle.rules.specs.Path as rules
use Rattle.rules.specs.Path.{Branch, Schedule, Bound, Marked, no_branch}
use Rattle.record.specs.Places.{FoundBelow}
use Rattle.path.specs.Holds.{Holds}
use Rattle.path.specs.Places.{records_of}

abbrev pub schedule_at_as : rules.ScheduleAt → Option ℕ
schedule_at_as rules.none = None
schedule_at_as (rules.at k s) = Some k

-- the bytes hold this path, and it has this schedule at a position
pub record HoldsAt (bytes : List ℕ) (bs : List Branch) (k : ℕ) (s : Schedule) : Type 0 where
  pub path : Holds bytes bs
  pub there : get_or bs k no_branch ≡ rules.schedule s

-- a schedule that stands in a path where it says
abbrev pub StandsIn : List Branch → rules.ScheduleAt → Type 0
StandsIn bs rules.none = Unit
StandsIn bs (rules.at k s) = get_or bs k no_branch ≡ rules.schedule s

-- the last schedule
pub record LastOf (path : List ℕ) (len : ℕ) (r : Option ℕ) : Type 0 where
  pub below : FoundBelow len r
  pub says : (bs : List Branch) → Holds path bs → length bs ≡ len → r ≡ schedule_at_as (rules.last_schedule bs)

-- the preemptions up to the schedule that was found, if one was
pub record PreemptionsBefore (path : List ℕ) (prev : Option ℕ) (r : ℕ) : Type 0 where
  pub few : r ≤ 256
  pub says : (bs : List Branch) → Holds path bs → (l : rules.ScheduleAt) → StandsIn bs l → prev ≡ schedule_at_as l → r ≡ rules.preemptions_after l

-- the last exploring one that does not stand after a point: one of the buffer's records
pub record ExploringFrom (path : List ℕ) (point : ℕ) (r : Option ℕ) : Type 0 where
  pub below : FoundBelow (records_of path) r
  pub says : (bs : List Branch) → Holds path bs → r ≡ schedule_at_as (rules.exploring_below bs (point + 1))

-- from a schedule downwards the last exploring one that chooses another thread than the one before
pub record SwitchFrom (path : List ℕ) (from : ℕ) (r : Option ℕ) : Type 0 where
  pub below : FoundBelow (from + 1) r
  pub says :
      (bs : List Branch) (s : Schedule) → HoldsAt path bs from s → r ≡ schedule_at_as (rules.switch_in (rules.schedules_below bs (from + 1)))

-- the bytes hold the path with its marks, and so many choices were opened
pub record PathMarked (exit : List ℕ) (m : Marked) (r : ℕ) : Type 0 where
  pub holds : Holds exit m.path
  pub opens : r ≡ m.opened

-- a thread marked in the schedule at a position
pub record MarksAt (entry exit : List ℕ) (at : ℕ) (bound : Bound) (t r : ℕ) : Type 0 where
  pub few : r ≤ 5
  pub marks : (bs : List Branch) (s : Schedule) → HoldsAt entry bs at s → PathMarked exit (rules.marked_at bound bs (rules.at at s) t) r

-- the second mark, after a first one at a position
pub record MarksBefore (entry exit : List ℕ) (at : ℕ) (bound : Bound) (t r : ℕ) : Type 0 where
  pub few : r ≤ 5
  pub marks :
      (m : Marked) (s : Schedule) → HoldsAt entry m.path at s
      → PathMarked exit (rules.marked_before bound m (rules.at at s) t) (m.opened + r)

-- both marks
pub record Backtracks (entry exit : List ℕ) (point : ℕ) (bound : Bound) (t r : ℕ) : Type 0 where
  pub few : r ≤ 10
  pub keeps : length exit ≡ length entry
  pub marks : (bs : List Branch) → Holds entry bs → PathMarked exit (rules.backtracked bound bs point t) r
