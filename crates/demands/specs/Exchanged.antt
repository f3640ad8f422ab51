-- The definition's explorer over its parts, so that one of them can be exchanged. With the definition's own parts it is the right
-- one (`SameExplorer`). Assumes nothing.
--     Pieces, own         the machine's next and answered, the limits, the marks and what follows an execution
--     courses_by           the executions of ledger's `run_by`, from their beginnings to their ends
--     explorer_by          the explorer with given parts
--     SameExplorer        it is the definition's
use Rattle.std.specs.Prelude.{ℕ, zero, suc, List, [], ◌∷◌, cond, ◌≡◌, eqb, length}
use Rattle.rules.specs.Event as Event
use Rattle.rules.specs.Event.{Machine, Pick, Move}
use Rattle.rules.specs.State.{State}
use Rattle.rules.specs.Machine.{Program, start, next, answered, final}
use Rattle.rules.specs.Explorer.{Limits, Ledger, Walk, Execution, Stop, goes, over, faulted, stops_here, goes_on, empty}
use Rattle.rules.specs.Explored.{Settings, Explored, explored, ran, is_refusal, program_of, limits_of}
use Rattle.ledger.specs.History.{Course, starting}
use Rattle.ledger.specs.Wrong as ledger
use Rattle.ledger.specs.Wrong.{Parts, tick_by, execution_by, run_by}
use Rattle.demands.specs.Demands.{Explorer, right}

pub record Pieces : Type 0 where
  pub next : Program → State → Event.Event State
  pub answered : Program → State → Pick → Move State
  pub limits : Settings → Limits
  pub parts : Parts State

abbrev pub own : Pieces
own = record { next = next; answered = answered; limits = limits_of; parts = ledger.right_parts }

-- The executions, as `run_by` makes them

module _ (M : Machine) (limits : Limits) (P : Parts M.State) where
  unfoldable pub ticks_from_by : ℕ → Walk M.State → List (Walk M.State)
  ticks_from_by zero w = []
  ticks_from_by (suc n) w = w ∷ elim (tick_by M limits P w) [ goes v ↦ ticks_from_by n v | over v ↦ [] | faulted f s v ↦ [] ]

  unfoldable pub course_by : Ledger → Course M.State
  course_by l = record {
    known = l.path;
    ticks = ticks_from_by limits.ticks (starting M limits l);
    outcome = execution_by M limits P l;
  }

  unfoldable pub courses_from_by : ℕ → Ledger → List Execution → List (Course M.State)
  courses_from_by zero l past = []
  courses_from_by (suc n) l past =
      course_by l
      ∷ elim (P.follows M.final (eqb n 0) past (execution_by M limits P l)) [ stops_here r ↦ [] | goes_on m more ↦ courses_from_by n m more ]

  unfoldable pub courses_by : ℕ → List (Course M.State)
  courses_by n = courses_from_by n empty []

-- The explorer

abbrev pub machine_by : Pieces → Program → Machine
machine_by y p = record { State = State; start = start p; next = y.next p; answered = y.answered p; final = final p }

-- with this run instead of the definition's, where the definition runs
abbrev pub ran_by : (List ℕ → List ℕ → Settings → Stop State) → List ℕ → List ℕ → Settings → List ℕ → List ℕ → Explored
ran_by run table condition s path trace =
    cond (is_refusal (explored table condition s path trace).report.answer) (explored table condition s path trace)
    (ran (length path) (length trace) (run table condition s))

unfoldable pub running_by : Pieces → List ℕ → List ℕ → Settings → Stop State
running_by y table condition s = run_by (machine_by y (program_of table condition s)) (y.limits s) y.parts s.executions

abbrev pub explorer_by : Pieces → Explorer
explorer_by y = record {
  explored = ran_by (running_by y);
  run = running_by y;
  executions = λ table condition s. courses_by (machine_by y (program_of table condition s)) (y.limits s) y.parts s.executions;
}

-- with the definition's parts it is the definition's explorer
pub record SameExplorer : Type 0 where
  pub explored : (table condition : List ℕ) (s : Settings) (path trace : List ℕ) →
      (explorer_by own).explored table condition s path trace ≡ right.explored table condition s path trace
  pub run : (table condition : List ℕ) (s : Settings) → (explorer_by own).run table condition s ≡ right.run table condition s
  pub executions : (table condition : List ℕ) (s : Settings) → (explorer_by own).executions table condition s ≡ right.executions table condition s
