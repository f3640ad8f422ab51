-- Wrong explorers, for which the balance fails, or the history is not real: the definition's explorer over two of its parts, and
-- one part exchanged at a time. With the definition's own parts it is the definition's explorer (`Same`). Assumes nothing.
--     Parts, right_parts   the marks that a question makes, and what follows an execution
--     run_by               the explorer with given parts
--     Same                it is the definition's
--     dropping_step, uncounted, reopening, inventing     a wrong part each
--     Unbalanced, Untold  what they come to
use Rattle.std.specs.Prelude.{ℕ, zero, suc, ◌+◌, ◌-◌, List, [], ◌∷◌, Bool, cond, ◌≡◌, ltb, eqb, get_or, set}
use Rattle.rules.specs.Path.{Branch, schedule, Bound, unbounded, ScheduleAt, none, at, pending, visited}
use Rattle.rules.specs.Path.{with_states, exploring_below, open_at, turned_branch}
use Rattle.rules.specs.Event as Event
use Rattle.rules.specs.Event.{Point, nowhere, branch, Question, which_thread, which_slot, which_bit, Site, no_site, Move, Machine, moves, asks, stops, ends}
use Rattle.rules.specs.State.{State}
use Rattle.rules.specs.Explorer.{Limits, Ledger, Walk, Tick, goes, over, faulted, Execution, Stop, stop, stopped, After, stops_here, goes_on}
use Rattle.rules.specs.Explorer.{first_marked, with_state, with_ledger, noted, fits, met, taken, fresh, one_begun, empty, after, run}
use Rattle.ledger.specs.History.{left_by, Course, Told}
use Rattle.ledger.specs.Balance.{begun, opened, open-in}
use Rattle.ledger.specs.Small.{small, small_limits}

pub record Parts (S : Type 0) : Type 0 where
  pub marks : Bound → Ledger → Question → Ledger
  pub follows : (S → Bool) → Bool → List Execution → Tick S → After S

abbrev pub right_parts : {S : Type 0} → Parts S
right_parts = record { marks = first_marked; follows = after }

-- The definition's explorer, with its parts left open

module _ (M : Machine) (limits : Limits) (P : Parts M.State) where
  abbrev pub taken_by : Site → Walk M.State → Move M.State → Tick M.State
  taken_by site w (moves s es) = taken M limits site w (moves s es)
  taken_by site w (asks s es exploring q) =
      cond (fits M limits w es)
      (met M limits site (with_ledger (noted w s es) (P.marks limits.bound w.ledger q)) exploring q)
      (faulted Event.impossible site (with_state w s))
  taken_by site w (stops s f) = taken M limits site w (stops s f)
  taken_by site w (ends s) = taken M limits site w (ends s)

  abbrev pub tick_by : Walk M.State → Tick M.State
  tick_by w = taken_by (M.next w.state).site w (M.next w.state).move

  unfoldable pub walked_by : ℕ → Walk M.State → Tick M.State
  walked_by zero w = faulted Event.impossible no_site w
  walked_by (suc n) w = elim (tick_by w) [ goes v ↦ walked_by n v | over v ↦ over v | faulted f s v ↦ faulted f s v ]

  abbrev pub execution_by : Ledger → Tick M.State
  execution_by l = walked_by limits.ticks (fresh M limits (one_begun M limits l))

  unfoldable pub run_from_by : ℕ → Ledger → List Execution → Stop M.State
  run_from_by zero l past = record { verdict = stopped Event.impossible no_site; walk = fresh M limits l; history = past }
  run_from_by (suc n) l past =
      elim (P.follows M.final (eqb n 0) past (execution_by l)) [ stops_here r ↦ r | goes_on m more ↦ run_from_by n m more ]

  unfoldable pub run_by : ℕ → Stop M.State
  run_by n = run_from_by n empty []

-- with the definition's parts it is the definition's explorer
unfoldable pub Same : Type 1
Same = (M : Machine) (limits : Limits) (n : ℕ) → run_by M limits right_parts n ≡ run M limits n

-- A part exchanged

-- what follows an execution, with another next path
abbrev pub stepping_by : {S : Type 0} → (List Branch → List Branch) → Parts S
stepping_by step = record {
  marks = first_marked;
  follows = λ final last past t.
      elim (after final last past t) [
        | stops_here r ↦ stops_here r
        | goes_on l more ↦ goes_on (record { path = step (left_by t).ledger.path; opened = l.opened; begun = l.begun }) more
      ];
}

-- a step that drops a record with something open: it turns the first branch with an open choice, and drops what stands after
unfoldable pub stepped_first : List Branch → List Branch
stepped_first [] = []
stepped_first (b ∷ bs) = cond (ltb 0 (open_at b)) (turned_branch b ∷ []) (b ∷ stepped_first bs)

abbrev pub dropping_step : {S : Type 0} → Parts S
dropping_step = stepping_by stepped_first

-- marks that are not counted
abbrev pub uncounted : {S : Type 0} → Parts S
uncounted = record {
  marks = λ bound l q. record { path = (first_marked bound l q).path; opened = l.opened; begun = l.begun };
  follows = after;
}

-- marks that open Visited: those of the definition, and then each target that is Visited
abbrev pub opened_again : List Branch → ScheduleAt → ℕ → List Branch
opened_again bs none t = bs
opened_again bs (at k s) t =
    cond (eqb (get_or s.states t pending) visited) (set bs k (schedule (with_states s (set s.states t pending)))) bs

unfoldable pub again_from : List Branch → List Point → ℕ → List Branch
again_from bs [] t = bs
again_from bs (nowhere ∷ points) t = again_from bs points (t + 1)
again_from bs (branch point ∷ points) t = again_from (opened_again bs (exploring_below bs (point + 1)) t) points (t + 1)

abbrev pub again_for : List Branch → Question → List Branch
again_for bs (which_thread points initial standings) = again_from bs points 0
again_for bs (which_slot m) = bs
again_for bs which_bit = bs

abbrev pub reopening : {S : Type 0} → Parts S
reopening = record {
  marks = λ bound l q.
      record { path = again_for (first_marked bound l q).path q; opened = (first_marked bound l q).opened; begun = l.begun };
  follows = after;
}

-- an explorer that stops after its first execution, with a fault that it has not met
abbrev pub inventing : {S : Type 0} → Parts S
inventing = record {
  marks = first_marked;
  follows = λ final last past t. stops_here (stop (stopped Event.deadlock no_site) (left_by t) past);
}

-- What they come to, on the small machine with a budget of ten executions

abbrev pub wrong_run : Parts State → Stop State
wrong_run P = run_by small (small_limits 16 unbounded) P 10

pub record Unbalanced (P : Parts State) (executions choices left : ℕ) : Type 0 where
  pub begun-is : begun (wrong_run P) ≡ executions
  pub opened-is : opened (wrong_run P) ≡ choices
  pub open_is : open-in (wrong_run P) ≡ left
  -- "executions begun = 1 + choices opened in the whole history − choices open in the path left": not so
  pub fails : begun (wrong_run P) ≡ 1 + opened (wrong_run P) - open-in (wrong_run P) → ⊥

-- no list of executions is that of its history
abbrev pub Untold : Parts State → Type 0
Untold P = (cs : List (Course State)) → Told small (small_limits 16 unbounded) 10 cs (wrong_run P) → ⊥

pub record WrongLedgers : Type 0 where
  -- the load that the first execution opened is dropped, its second value never read
  pub dropping : Unbalanced dropping_step 4 4 0
  -- the five executions of P3, and only the loads' choices counted
  pub silent : Unbalanced uncounted 5 2 0
  -- the two threads of the second branch take turns for ever
  pub again : Unbalanced reopening 10 6 2
  -- it balances, with one execution begun and two choices opened that are open still; but none has met the fault
  pub invented : Untold inventing
  pub balances : begun (wrong_run inventing) ≡ 1 + opened (wrong_run inventing) - open-in (wrong_run inventing)
