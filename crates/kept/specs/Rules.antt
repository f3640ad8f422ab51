-- The rules of path records, at every moment of every run: document 01, "Path record" and "Settings, buffers, answers". Assumes
-- nothing.
--     IsSchedule, NoSchedule, NewestSchedule   the schedule before a place
--     ScheduleRules, LoadRules, RecordRules    a record, after the records before it
--     PathRules                                all records of a path
--     RuledIn, RuledRun, Ruled                 at every walk of an execution, of a run; the statement
use Rattle.std.specs.Prelude.{ℕ, ◌≤◌, ◌<◌, List, ◌≡◌, ◌⊎◌, length, get_or, take}
use Rattle.rules.specs.Path.{Branch, schedule, load, spurious, Schedule, Load, at_most, preemptions_with, active, no_thread, no_prev, no_branch}
use Rattle.rules.specs.Event.{Machine, Question}
use Rattle.rules.specs.Explorer.{Limits, run}
use Rattle.ledger.specs.History.{Every, Course, courses, end}
use Rattle.kept.specs.Kept.{Holding, Asking, Keeps, Answerable}

-- Schedules among records

abbrev pub IsSchedule : Branch → Type 0
IsSchedule (schedule s) = Unit {0}
IsSchedule (load l) = ⊥
IsSchedule (spurious u) = ⊥

-- none of these is one
abbrev pub NoSchedule : List Branch → Type 0
NoSchedule bs = (k : ℕ) → IsSchedule (get_or bs k no_branch) → ⊥

-- the one at this position, and none after it
pub record NewestSchedule (bs : List Branch) (p : ℕ) : Type 0 where
  pub within : p < length bs
  pub is : IsSchedule (get_or bs p no_branch)
  pub newest : (k : ℕ) → p < k → IsSchedule (get_or bs k no_branch) → ⊥

-- Records

-- "schedule: five states (0 Disabled, 1 Skip, 2 Yield, 3 Pending, 4 Active, 5 Visited), preemptions, initial active or 255, prev
-- u16 or 65535", after the records before it
pub record ScheduleRules (before : List Branch) (s : Schedule) : Type 0 where
  -- "five states"
  pub five : length s.states ≡ 5
  -- "(0 Disabled .. 5 Visited)"
  pub states : (t : ℕ) → get_or s.states t 0 ≤ 5
  -- "the branch chooses": at most one is Active
  pub one-active : (t u : ℕ) → get_or s.states t 0 ≡ active → get_or s.states u 0 ≡ active → t ≡ u
  -- "a new schedule branch's preemptions would pass 255": the branch isn't added
  pub preemptions : s.preemptions ≤ 255
  -- "initial active or 255"
  pub initial : (s.initial ≡ no_thread) ⊎ (s.initial < 5)
  -- "prev u16 or 65535": the newest schedule before it, or there is none
  pub prev : ((s.prev ≡ no_prev) × NoSchedule before) ⊎ NewestSchedule before s.prev

-- "load: seven values, pos, len"
pub record LoadRules (l : Load) : Type 0 where
  -- one at least
  pub some : 0 < length l.values
  -- "seven values"
  pub seven : length l.values ≤ 7
  -- "Offers rise strictly."
  pub rise : (j k : ℕ) → j < k → k < length l.values → get_or l.values j 0 < get_or l.values k 0
  -- "MAX_ATOMIC_HISTORY 7": each is a slot
  pub slots : (k : ℕ) → k < length l.values → get_or l.values k 0 < 7
  -- "pos, len"
  pub pos : l.pos < length l.values

-- "spurious: bit"
abbrev pub RecordRules : List Branch → Branch → Type 0
RecordRules before (schedule s) = ScheduleRules before s
RecordRules before (load l) = LoadRules l
RecordRules before (spurious u) = Unit {0}

-- Paths, under these limits
pub record PathRules (limits : Limits) (bs : List Branch) : Type 0 where
  -- "a branch is to be added with B present"
  pub room : length bs ≤ limits.branches
  -- "Path record"
  pub records : (k : ℕ) → k < length bs → RecordRules (take k bs) (get_or bs k no_branch)
  -- "preemption bound none or 0..255": no execution passes it. The preemptions before each schedule, and the one that its own choice may
  -- be, are at most as many (path.rs: Schedule::backtrack asserts it)
  pub bounded : (n : ℕ) → limits.bound ≡ at_most n → (k : ℕ) (s : Schedule) → get_or bs k no_branch ≡ schedule s → preemptions_with s ≤ n

-- Every moment

pub record RuledIn (M : Machine) (limits : Limits) (c : Course M.State) : Type 0 where
  pub at-start : PathRules limits c.known
  pub at-ticks : Every (λ w. PathRules limits w.ledger.path) c.ticks
  pub at-end : PathRules limits (end c).ledger.path

pub record RuledRun (M : Machine) (limits : Limits) (n : ℕ) : Type 0 where
  pub executions : Every (RuledIn M limits) (courses M limits n)
  -- "path and trace so far": the path left
  pub left : PathRules limits (run M limits n).walk.ledger.path

-- Of any machine whose questions can be answered, by what it keeps
unfoldable pub Ruled : Type 1
Ruled =
    (M : Machine) (limits : Limits) (Holds : Holding M) (Asked : Asking M) (Over : Holding M) → Keeps M Holds Asked Over →
    ((s : M.State) (n : ℕ) (q : Question) → Asked s n q → Answerable q) →
    (n : ℕ) → RuledRun M limits n
