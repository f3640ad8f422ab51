-- Wrong explorers, for which the tree and the turning points fail: the definition's explorer over its parts, as in Wrong, with
-- one part exchanged. Assumes nothing.
--     revisiting                    a step that visits a choice twice
--     SameAgain, Repeated, Lost     how the statements fail
--     WrongTree                     what the wrong ones come to
use Rattle.std.specs.Prelude.{ℕ, ◌+◌, ◌-◌, ◌<◌, List, [], ◌∷◌, ◌≡◌, length, get_or, set}
use Rattle.rules.specs.Vector.{Whom, nobody, thread}
use Rattle.rules.specs.Path.{Branch, schedule, ScheduleAt, none, at, pending, active_in, with_states, schedule_at, stepped}
use Rattle.rules.specs.State.{State}
use Rattle.ledger.specs.Balance.{opened, open-in}
use Rattle.ledger.specs.Tree.{no_execution, Parted}
use Rattle.ledger.specs.Turning.{Name, running, partings}
use Rattle.ledger.specs.Wrong.{Parts, stepping_by, wrong_run, dropping_step, reopening}

-- a step that visits a choice twice: where it turns at a schedule, the thread that was Active becomes Pending, and not Visited
abbrev pub to_pending : Whom → List ℕ → List ℕ
to_pending nobody states = states
to_pending (thread t) states = set states t pending

-- the next path, and at its last place the schedule as it was and as it is
abbrev pub pending_again : List Branch → ScheduleAt → ScheduleAt → List Branch
pending_again ds none now = ds
pending_again ds (at k s) none = ds
pending_again ds (at k s) (at j r) = set ds k (schedule (with_states r (to_pending (active_in s.states) r.states)))

unfoldable pub stepped_twice : List Branch → List Branch
stepped_twice bs =
    pending_again (stepped bs) (schedule_at bs (length (stepped bs) - 1)) (schedule_at (stepped bs) (length (stepped bs) - 1))

abbrev pub revisiting : {S : Type 0} → Parts S
revisiting = stepping_by stepped_twice

-- two executions made the same choices: "Any two executions made equal choices up to some branch, which both reach, then
-- different ones": not so
pub record SameAgain (P : Parts State) (i j : ℕ) : Type 0 where
  pub earlier : i < j
  pub later : j < length (wrong_run P).history
  pub fails : Parted (get_or (wrong_run P).history i no_execution).choices (get_or (wrong_run P).history j no_execution).choices → ⊥

-- fewer choices were turned to, or are open, than were opened
pub record Lost (P : Parts State) : Type 0 where
  pub fails : length (partings (wrong_run P).history) + open-in (wrong_run P) < opened (wrong_run P)

-- two executions have the same turning point
pub record Repeated (P : Parts State) (i j : ℕ) (point : Name) : Type 0 where
  pub earlier : i < j
  pub later : j < length (partings (wrong_run P).history)
  pub first : get_or (partings (wrong_run P).history) i [] ≡ point
  pub again : get_or (partings (wrong_run P).history) j [] ≡ point

-- on the small machine with a budget of ten executions
pub record WrongTree : Type 0 where
  -- the sixth execution is the third again
  pub revisited : SameAgain revisiting 2 5
  -- marks that open Visited: here too, and the seventh turns where the fourth did
  pub reopened : SameAgain reopening 2 5
  pub repeated : Repeated reopening 2 5 (running 1 ∷ running 0 ∷ [])
  -- a step that drops a record with something open: the load's second value is neither turned to nor open
  pub dropped : Lost dropping_step
