-- How an event meets the path, an execution as ticks, a run as executions, over any machine: document 01, "Settings, buffers,
-- answers" and "Interpreter, explorer". Assumes nothing.
--     Ledger            the path, and what is counted over the whole history
--     met               a question meets the path
--     Walk, tick        an execution under way, and its next tick
--     Execution         what is left of one that is over: its choices and its trace
--     run               one execution after another, with their history
use Rattle.std.specs.Prelude.{ℕ, zero, suc, ◌+◌, List, [], ◌∷◌, ◌++◌, map, Bool, true, cond, not, ◌&&◌, ltb, leb, eqb, length, get_or, take}
use Rattle.rules.specs.Path.{Branch, schedule, load, spurious, Load, Bound, Added, added, Choice}
use Rattle.rules.specs.Path.{thread_added, load_added, spurious_added, open_at, backtracked, stepped, open_in, choice_of, active_in, no_branch}
use Rattle.rules.specs.Path.{disabled, skip, yield, to_active}
use Rattle.rules.specs.State.{history}
use Rattle.rules.specs.Vector.{Whom}
use Rattle.rules.specs.Event as Event
use Rattle.rules.specs.Event.{Standing, yielded, cannot_run, other, slots_of}
use Rattle.rules.specs.Event.{Fault, Entry, Point, nowhere, branch, Matched, offers, Question, which_thread, which_slot, which_bit, Pick, run_thread, read_slot, take_bit, Site, no_site, Move, Machine, moves, asks, stops, ends}

-- "Branch limit B", "operation limit L", the preemption bound, and how many ticks an execution may take
pub record Limits : Type 0 where
  pub branches : ℕ
  pub operations : ℕ
  pub bound : Bound
  pub ticks : ℕ

-- A question meets the path

-- "executions begun, choices opened", so far in the whole history, with the path
pub record Ledger : Type 0 where
  pub path : List Branch
  pub opened : ℕ
  pub begun : ℕ

-- "(a) for each thread in order .. `backtrack` from that access's branch for that thread"
abbrev pub backtrack_from : Bound → Ledger → Point → ℕ → Ledger
backtrack_from bound l nowhere t = l
backtrack_from bound l (branch point) t = record {
  path = (backtracked bound l.path point t).path;
  opened = l.opened + (backtracked bound l.path point t).opened;
  begun = l.begun;
}

-- of the threads from this one on
unfoldable pub all_marked : Bound → Ledger → List Point → ℕ → Ledger
all_marked bound l [] t = l
all_marked bound l (p ∷ points) t = all_marked bound (backtrack_from bound l p t) points (t + 1)

abbrev pub first_marked : Bound → Ledger → Question → Ledger
first_marked bound l (which_thread points initial standings) = all_marked bound l points 0
first_marked bound l (which_slot m) = l
first_marked bound l which_bit = l

-- "(c) seed: initial Active, else yielded Yield, not runnable or absent Disabled, others Skip"
abbrev pub seed_state : Standing → ℕ
seed_state yielded = yield
seed_state cannot_run = disabled
seed_state other = skip

unfoldable pub seed_of : Whom → List Standing → List ℕ
seed_of initial standings = to_active initial (map seed_state standings)

-- the branch that a question adds where the path has none yet: "if new, match (13) then push (11)" (atomic.rs: Atomic::load)
pub data Pushed : Type 0 where
  pushes : Branch → Pushed
  faults : Fault → Pushed

abbrev pub or_fault : Added → Pushed
or_fault (added b) = pushes b
or_fault Added.full = faults Event.full
or_fault Added.preempted = faults Event.preemptions

abbrev pub load_pushed : ℕ → List Branch → Bool → Matched → Pushed
load_pushed B bs exploring (offers slots) = or_fault (load_added B bs exploring (slots_of slots))
load_pushed B bs exploring Event.equal = faults Event.equal_orders

unfoldable pub pushed : ℕ → List Branch → Bool → Question → Pushed
pushed B bs exploring (which_thread points initial standings) = or_fault (thread_added B bs exploring (seed_of initial standings))
pushed B bs exploring (which_slot m) = load_pushed B bs exploring m
pushed B bs exploring which_bit = or_fault (spurious_added B bs exploring)

-- an added branch opens what it then has open
abbrev pub with_branch : Ledger → Branch → Ledger
with_branch l b = record { path = l.path ++ (b ∷ []); opened = l.opened + open_at b; begun = l.begun }

-- The record's answer, where it is one of the question's kind

pub data Reply : Type 0 where
  says : Pick → Reply
  unexpected : Reply

abbrev pub max_slots : ℕ
max_slots = history

unfoldable pub all_below : ℕ → List ℕ → Bool
all_below n [] = true
all_below n (x ∷ xs) = ltb x n && all_below n xs

-- a load's value at its position; no path has a position past its values or a value that is no slot (docs/DECISIONS.md, 51)
abbrev pub slot_said : Load → Reply
slot_said l =
    cond (ltb l.pos (length l.values) && all_below max_slots l.values)
    (says (read_slot (get_or l.values l.pos 0) l.values))
    unexpected

unfoldable pub reply : ℕ → Branch → Question → Reply
reply pos (schedule s) (which_thread points initial standings) = says (run_thread (active_in s.states) pos)
reply pos (schedule s) (which_slot m) = unexpected
reply pos (schedule s) which_bit = unexpected
reply pos (load l) (which_thread points initial standings) = unexpected
reply pos (load l) (which_slot m) = slot_said l
reply pos (load l) which_bit = unexpected
reply pos (spurious u) (which_thread points initial standings) = unexpected
reply pos (spurious u) (which_slot m) = unexpected
reply pos (spurious u) which_bit = says (take_bit u.bit)

-- An execution under way

pub record Walk (S : Type 0) : Type 0 where
  pub state : S
  pub ledger : Ledger
  -- the branches passed in this execution
  pub pos : ℕ
  pub trace : List Entry

-- how a tick comes out: the execution goes on, is over, or has met a fault
pub data Tick (S : Type 0) : Type 0 where
  goes : Walk S → Tick S
  over : Walk S → Tick S
  faulted : Fault → Site → Walk S → Tick S

abbrev pub with_state : {S : Type 0} → Walk S → S → Walk S
with_state w s = record { state = s; ledger = w.ledger; pos = w.pos; trace = w.trace }

abbrev pub with_ledger : {S : Type 0} → Walk S → Ledger → Walk S
with_ledger w l = record { state = w.state; ledger = l; pos = w.pos; trace = w.trace }

abbrev pub onward : {S : Type 0} → Walk S → Walk S
onward w = record { state = w.state; ledger = w.ledger; pos = w.pos + 1; trace = w.trace }

-- the rows that are now complete have their entries
abbrev pub noted : {S : Type 0} → Walk S → S → List Entry → Walk S
noted w s es = record { state = s; ledger = w.ledger; pos = w.pos; trace = w.trace ++ es }

module _ (M : Machine) (limits : Limits) where
  -- "the trace buffer 16·L": L entries have room
  abbrev pub fits : Walk M.State → List Entry → Bool
  fits w es = leb (length w.trace + length es) limits.operations

  -- what follows an answer; a machine that asks again before it has moved has no place here
  abbrev pub followed : Site → Walk M.State → Move M.State → Tick M.State
  followed site w (moves s es) = cond (fits w es) (goes (noted w s es)) (faulted Event.impossible site (with_state w s))
  followed site w (asks s es exploring q) = faulted Event.impossible site (with_state w s)
  followed site w (stops s f) = faulted f site (with_state w s)
  followed site w (ends s) = over (with_state w s)

  abbrev pub replied : Site → Walk M.State → Reply → Tick M.State
  replied site w (says a) = followed site (onward w) (M.answered w.state a)
  replied site w unexpected = faulted Event.impossible site w

  -- where no branch can be added, what came before the question has happened [Q4]
  abbrev pub new_branch : Site → Walk M.State → Question → Pushed → Tick M.State
  new_branch site w q (pushes b) = replied site (with_ledger w (with_branch w.ledger b)) (reply w.pos b q)
  new_branch site w q (faults f) = faulted f site w

  -- past the known path the question adds a branch; before its end the branch there answers (path.rs: is_traversed)
  abbrev pub met : Site → Walk M.State → Bool → Question → Tick M.State
  met site w exploring q =
      cond (eqb w.pos (length w.ledger.path))
      (new_branch site w q (pushed limits.branches w.ledger.path exploring q))
      (replied site w (reply w.pos (get_or w.ledger.path w.pos no_branch) q))

  -- marks are made first: "In a run the first fault stops everything; marks made before it stay." [Q10]
  abbrev pub asked : Site → Walk M.State → Bool → Question → Tick M.State
  asked site w exploring q = met site (with_ledger w (first_marked limits.bound w.ledger q)) exploring q

  abbrev pub taken : Site → Walk M.State → Move M.State → Tick M.State
  taken site w (moves s es) = cond (fits w es) (goes (noted w s es)) (faulted Event.impossible site (with_state w s))
  taken site w (asks s es exploring q) =
      cond (fits w es) (asked site (noted w s es) exploring q) (faulted Event.impossible site (with_state w s))
  taken site w (stops s f) = faulted f site (with_state w s)
  taken site w (ends s) = over (with_state w s)

  unfoldable pub tick : Walk M.State → Tick M.State
  tick w = taken (M.next w.state).site w (M.next w.state).move

  -- the ticks of an execution, at most n
  unfoldable pub walked : ℕ → Walk M.State → Tick M.State
  walked zero w = faulted Event.impossible no_site w
  walked (suc n) w = elim (tick w) [ goes v ↦ walked n v | over v ↦ over v | faulted f s v ↦ faulted f s v ]

  -- "Start of each execution": the path is what was left, the trace begins anew
  abbrev pub fresh : Ledger → Walk M.State
  fresh l = record { state = M.start; ledger = l; pos = 0; trace = [] }

  -- "executions begun": each is counted as it begins, also the one that faults [Q8]
  abbrev pub one_begun : Ledger → Ledger
  one_begun l = record { path = l.path; opened = l.opened; begun = l.begun + 1 }

  unfoldable pub execution : Ledger → Tick M.State
  execution l = walked limits.ticks (fresh (one_begun l))

-- A run

-- an execution that is over: what was chosen at each branch that it reached, and its trace
pub record Execution : Type 0 where
  pub choices : List Choice
  pub trace : List Entry

abbrev pub execution_of : {S : Type 0} → Walk S → Execution
execution_of w = record { choices = map choice_of (take w.pos w.ledger.path); trace = w.trace }

-- "0 an execution ended, no choice open"; "1 N executions ended, some choice open"; "a false one is answer 18"; a fault, with
-- where it was met
pub data Verdict : Type 0 where
  exhausted : Verdict
  spent : Verdict
  unmet : Verdict
  stopped : Fault → Site → Verdict

-- where a run stops: the last execution as it was left, and all executions
pub record Stop (S : Type 0) : Type 0 where
  pub verdict : Verdict
  pub walk : Walk S
  pub history : List Execution

abbrev pub stop : {S : Type 0} → Verdict → Walk S → List Execution → Stop S
stop verdict w past = record { verdict = verdict; walk = w; history = past ++ (execution_of w ∷ []) }

-- a run stops, or goes on with the next path
pub data After (S : Type 0) : Type 0 where
  stops_here : Stop S → After S
  goes_on : Ledger → List Execution → After S

abbrev pub next_ledger : Ledger → Ledger
next_ledger l = record { path = stepped l.path; opened = l.opened; begun = l.begun }

-- nothing known, nothing opened, nothing begun
abbrev pub empty : Ledger
empty = record { path = []; opened = 0; begun = 0 }

-- "The condition is judged when all threads have ended; a false one is answer 18, ahead of 0 and 1 .., and the run stops there."
-- "0 an execution ended, no choice open": also at the Nth [Q8]. "After answer 0 or 1 no `step` is made.", nor after 18, "leaving
-- what 0 leaves". An execution that would still go on is not over (docs/DECISIONS.md, 51)
unfoldable pub after : {S : Type 0} → (S → Bool) → Bool → List Execution → Tick S → After S
after final last past (goes w) = stops_here (stop (stopped Event.impossible no_site) w past)
after final last past (over w) =
    cond (not (final w.state)) (stops_here (stop unmet w past))
    (cond (eqb (open_in w.ledger.path) 0) (stops_here (stop exhausted w past))
    (cond last (stops_here (stop spent w past))
    (goes_on (next_ledger w.ledger) (past ++ (execution_of w ∷ [])))))
after final last past (faulted f site w) = stops_here (stop (stopped f site) w past)

module _ (M : Machine) (limits : Limits) where
  -- at most n more executions, from this ledger, after these executions. With none allowed, which is refused before a run,
  -- nothing begins
  unfoldable pub run_from : ℕ → Ledger → List Execution → Stop M.State
  run_from zero l past = record { verdict = stopped Event.impossible no_site; walk = fresh M limits l; history = past }
  run_from (suc n) l past =
      elim (after M.final (eqb n 0) past (execution M limits l)) [ stops_here r ↦ r | goes_on m more ↦ run_from n m more ]

  -- "execution budget N"
  unfoldable pub run : ℕ → Stop M.State
  run n = run_from n empty []
