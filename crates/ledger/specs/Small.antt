-- A small run that the checker computes whole: document 01's case P3, "thread 0 stores 1, thread 1 loads, Relaxed, one cell
-- starting at 0". Assumes nothing.
--     small, under        its machine, without and with a final condition
--     small_limits         its limits
--     CaseOutcome         what a run of it comes to
--     WorkedRuns          the worked cases
use Rattle.std.specs.Prelude.{ℕ, List, [], ◌∷◌, true, ◌≡◌}
use Rattle.rules.specs.Path.{Bound, unbounded, at_most, Branch, schedule, load, disabled, active, visited, no_thread, no_prev}
use Rattle.rules.specs.Event.{full, Machine}
use Rattle.rules.specs.State.{State}
use Rattle.rules.specs.Machine.{machine}
use Rattle.rules.specs.Explorer.{Limits, Stop, Verdict, exhausted, spent, unmet, stopped, run}
use Rattle.rules.specs.Condition.{equals, differs}
use Rattle.rules.specs.Worked.{store_and_load, comparing, loads_in_all}
use Rattle.ledger.specs.Balance.{begun, opened, open-in}

abbrev pub under : List ℕ → Machine
under condition = machine (record { table = store_and_load; condition = condition; operations = 2; exploring = true })

abbrev pub small : Machine
small = under []

-- with a branch limit, a preemption bound and an execution budget; its two rows fit
abbrev pub small_limits : ℕ → Bound → Limits
small_limits B bound = record { branches = B; operations = 2; bound = bound; ticks = 32 }

abbrev pub small_run_under : List ℕ → ℕ → Bound → ℕ → Stop State
small_run_under condition B bound n = run (under condition) (small_limits B bound) n

abbrev pub run_of : ℕ → Bound → ℕ → Stop State
run_of = small_run_under []

-- answer, executions begun, values read in the order of the traces, choices opened, choices open
pub record CaseOutcome : Type 0 where
  pub verdict : Verdict
  pub executions : ℕ
  pub values : List ℕ
  pub choices : ℕ
  pub left : ℕ

abbrev pub outcome : Verdict → ℕ → List ℕ → ℕ → ℕ → CaseOutcome
outcome v e vs c l = record { verdict = v; executions = e; values = vs; choices = c; left = l }

abbrev pub outcome_under : List ℕ → ℕ → Bound → ℕ → CaseOutcome
outcome_under condition B bound n =
    let r = small_run_under condition B bound n in
    outcome r.verdict (begun r) (loads_in_all r.history) (opened r) (open-in r)

abbrev pub outcome_of : ℕ → Bound → ℕ → CaseOutcome
outcome_of = outcome_under []

-- "schedule: five states .., preemptions, initial active or 255, prev u16 or 65535", on an exploring record
abbrev pub schedule_branch : List ℕ → ℕ → ℕ → ℕ → Branch
schedule_branch states preemptions initial prev =
    schedule (record { exploring = true; states = states; preemptions = preemptions; initial = initial; prev = prev })

-- the worked cases, which the checker computes
pub record WorkedRuns : Type 0 where
  -- "P3 .. 5 executions, values 0,1,0,0,1, opened 4"
  pub p3 : outcome_of 16 unbounded 100 ≡ outcome exhausted 5 (0 ∷ 1 ∷ 0 ∷ 0 ∷ 1 ∷ []) 4 0
  -- "P4 bound 0: 2 executions"
  pub p4 : outcome_of 16 (at_most 0) 100 ≡ outcome exhausted 2 (0 ∷ 1 ∷ []) 1 0
  -- "P5 bound 1: 3"
  pub p5 : outcome_of 16 (at_most 1) 100 ≡ outcome exhausted 3 (0 ∷ 1 ∷ 0 ∷ []) 2 0
  -- the budget spent with something open
  pub one : outcome_of 16 unbounded 1 ≡ outcome spent 1 (0 ∷ []) 2 2
  pub four : outcome_of 16 unbounded 4 ≡ outcome spent 4 (0 ∷ 1 ∷ 0 ∷ 0 ∷ []) 4 1
  -- the fifth is the last: with just that budget nothing is open
  pub five : outcome_of 16 unbounded 5 ≡ outcome exhausted 5 (0 ∷ 1 ∷ 0 ∷ 0 ∷ 1 ∷ []) 4 0
  -- a fault: "11 a branch is to be added with B present"; the loading thread ends, past its one row
  pub fault : outcome_of 4 unbounded 100 ≡ outcome (stopped full (record { thread = 1; row = 1 })) 1 (0 ∷ []) 2 2
  -- "a false one is answer 18, ahead of 0 and 1": that thread 1 reads 0 is false of the second execution, also where it is the last
  -- that is allowed; that it does not read 2, of none
  pub claim-false : outcome_under (comparing equals 1 0) 16 unbounded 100 ≡ outcome unmet 2 (0 ∷ 1 ∷ []) 2 1
  pub claim-false-last : outcome_under (comparing equals 1 0) 16 unbounded 2 ≡ outcome unmet 2 (0 ∷ 1 ∷ []) 2 1
  pub claim-true : outcome_under (comparing differs 1 2) 16 unbounded 100 ≡ outcome exhausted 5 (0 ∷ 1 ∷ 0 ∷ 0 ∷ 1 ∷ []) 4 0
  -- the path left by the fourth execution
  pub path : (run_of 16 unbounded 4).walk.ledger.path ≡
      schedule_branch (visited ∷ active ∷ 0 ∷ 0 ∷ 0 ∷ []) 0 0 no_prev
      ∷ schedule_branch (active ∷ visited ∷ 0 ∷ 0 ∷ 0 ∷ []) 1 1 0
      ∷ schedule_branch (disabled ∷ active ∷ 0 ∷ 0 ∷ 0 ∷ []) 2 no_thread 1
      ∷ load (record { exploring = true; values = 0 ∷ 1 ∷ []; pos = 0 })
      ∷ schedule_branch (disabled ∷ disabled ∷ 0 ∷ 0 ∷ 0 ∷ []) 2 no_thread 2
      ∷ []
