-- The history of a run, over any machine: its executions, each from its beginning to its end, tick by tick, how one follows
-- another, and why the run stopped with the last. Assumes nothing.
--     Every                  that each of a list has a property
--     Course, course_of       an execution: the path that it began with, its ticks, and how it came out
--     courses                all executions of a run
--     Stops, Made            how the last came out, by the verdict; all of them
--     Told, Real             they are those of the run's history
use Rattle.std.specs.Prelude.{ℕ, zero, suc, ◌<◌, List, [], ◌∷◌, map, true, false, ◌≡◌, eqb}
use Rattle.rules.specs.Path.{Branch, open_in}
use Rattle.rules.specs.Event.{Machine, impossible, no_site}
use Rattle.rules.specs.Explorer.{Limits, Ledger, Walk, Tick, goes, over, faulted, tick, fresh, one_begun, execution}
use Rattle.rules.specs.Explorer.{Execution, execution_of, Verdict, exhausted, spent, unmet, stopped, Stop, next_ledger, empty, after, stops_here, goes_on, run}

abbrev pub Every : {A : Type 0} → (A → Type 0) → List A → Type 0
Every P [] = Unit {0}
Every P (x ∷ xs) = P x × Every P xs

-- the walk that a tick or an execution left, however it ended
abbrev pub left_by : {S : Type 0} → Tick S → Walk S
left_by (goes w) = w
left_by (over w) = w
left_by (faulted f s w) = w

-- an execution: the path known when it began, the walks from which its ticks were made, and how it came out
pub record Course (S : Type 0) : Type 0 where
  pub known : List Branch
  pub ticks : List (Walk S)
  pub outcome : Tick S

abbrev pub end : {S : Type 0} → Course S → Walk S
end c = left_by c.outcome

abbrev pub executed : {S : Type 0} → Course S → Execution
executed c = execution_of (end c)

module _ (M : Machine) (limits : Limits) where
  -- the walks from which an execution's ticks are made, at most n
  unfoldable pub ticks_from : ℕ → Walk M.State → List (Walk M.State)
  ticks_from zero w = []
  ticks_from (suc n) w = w ∷ elim (tick M limits w) [ goes v ↦ ticks_from n v | over v ↦ [] | faulted f s v ↦ [] ]

  -- the walk with which an execution from this ledger begins
  abbrev pub starting : Ledger → Walk M.State
  starting l = fresh M limits (one_begun M limits l)

  unfoldable pub course_of : Ledger → Course M.State
  course_of l = record {
    known = l.path;
    ticks = ticks_from limits.ticks (starting l);
    outcome = execution M limits l;
  }

  -- the executions of a run, as the definition's `run_from` makes them
  unfoldable pub courses_from : ℕ → Ledger → List Execution → List (Course M.State)
  courses_from zero l past = []
  courses_from (suc n) l past =
      course_of l
      ∷ elim (after M.final (eqb n 0) past (execution M limits l)) [ stops_here r ↦ [] | goes_on m more ↦ courses_from n m more ]

  unfoldable pub courses : ℕ → List (Course M.State)
  courses n = courses_from n empty []

  -- How the last execution came out, in a run with a budget of n that leaves this walk: "0 an execution ended, no choice open",
  -- "1 N executions ended, some choice open", where its condition held; where not, 18; or the fault, as the execution met it
  abbrev pub Stops : ℕ → Walk M.State → Verdict → Tick M.State → Type 0
  Stops n w exhausted t = (t ≡ over w) × (M.final w.state ≡ true) × (open_in w.ledger.path ≡ 0)
  Stops n w spent t = (t ≡ over w) × (M.final w.state ≡ true) × (0 < open_in w.ledger.path) × (w.ledger.begun ≡ n)
  Stops n w unmet t = (t ≡ over w) × (M.final w.state ≡ false)
  Stops n w (stopped f site) t = t ≡ faulted f site w

  -- The executions from a ledger on. Each but the last was over, its condition met, with a choice open and fewer than n begun, and
  -- the next goes on from the next path. With none more allowed nothing begins
  abbrev pub Made : ℕ → Walk M.State → Verdict → Ledger → List (Course M.State) → Type 0
  Made n w v l [] = (n ≡ l.begun) × (w ≡ fresh M limits l) × (v ≡ stopped impossible no_site)
  Made n w v l (c ∷ []) = (c ≡ course_of l) × Stops n w v (execution M limits l)
  Made n w v l (c ∷ d ∷ more) =
      (c ≡ course_of l)
      × (u : Walk M.State)
      × (execution M limits l ≡ over u)
      × (M.final u.state ≡ true)
      × (0 < open_in u.ledger.path)
      × (u.ledger.begun < n)
      × Made n w v (next_ledger u.ledger) (d ∷ more)

-- these are the executions of a run with a budget of n that stops so
pub record Told (M : Machine) (limits : Limits) (n : ℕ) (cs : List (Course M.State)) (r : Stop M.State) : Type 0 where
  pub made : Made M limits n r.walk r.verdict empty cs
  pub history : r.history ≡ map executed cs

-- The history is real: it has for each execution its choices and its trace, and the walk left is that of the last one
unfoldable pub Real : Type 1
Real = (M : Machine) (limits : Limits) (n : ℕ) → Told M limits n (courses M limits n) (run M limits n)
