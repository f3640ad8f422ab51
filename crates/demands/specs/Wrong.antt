-- Wrong explorers, and the sentence of the page that each breaks: the right one, or the explorer over its parts (Exchanged), with
-- one part exchanged, on a table so small that the checker computes its run. Each statement says that the sentences of one name on
-- the page do not all hold of it; the one that does not, by which alone it is proved, stands in brackets. Assumes nothing.
--     Broken, BrokenUnder                          the sentences do not hold, for a table and settings, under a condition
--     answering, reporting, refusing               an explorer that returns or leaves something else
--     with_parts, following, stepping               one with other marks, or other steps after an execution
--     limiting, doing, rescanning, answered_by      one with other limits, moves, offers, effects of an answer
--     Wrong                                        what the wrong ones break, by the records of the page
use Rattle.std.specs.Prelude.{ℕ, ◌+◌, ◌-◌, ◌*◌, List, [], ◌∷◌, ◌++◌, map, Bool, true, false, cond, eqb, length, get_or, replicate, drop}
use Rattle.rules.specs.Path.{Branch, schedule, load, spurious, unbounded, at_most, record_bytes, skip, pending, active, visited, with_states, stepped}
use Rattle.rules.specs.Table.{judged, good, bad_header, bad_row}
use Rattle.rules.specs.Seen.{unseens}
use Rattle.rules.specs.Event as Event
use Rattle.rules.specs.Event.{Matched, offers, equal, Question, which_thread, which_slot, which_bit, Pick, run_thread, read_slot, take_bit, Move, moves, asks, stops, ends}
use Rattle.rules.specs.State as State
use Rattle.rules.specs.State.{State, Marks, number, with_number, active_thread, threads, cells, history}
use Rattle.rules.specs.Machine.{Program, next, answered, with_numbers, row_begun, version_raised}
use Rattle.rules.specs.Cell.{with_both}
use Rattle.rules.specs.Explorer.{Limits, Walk, Tick, goes, over, faulted, with_ledger, Execution, stop, exhausted, After, stops_here, goes_on, after, first_marked}
use Rattle.rules.specs.Explored.{Settings, Explored, Report, explored, refused, ran, is_refusal, stop_of, program_of, limits_of, entries_bytes}
use Rattle.rules.specs.Worked as Worked
use Rattle.rules.specs.Condition.{equals, differs}
use Rattle.rules.specs.Worked.{row, table, one_load, store, store_and_load, comparing}
use Rattle.ledger.specs.History.{Course, left_by}
use Rattle.ledger.specs.Wrong.{Parts, stepping_by, tick_by, dropping_step, uncounted, inventing}
use Rattle.offers.specs.Seen.{Watched}
use Rattle.demands.specs.Demands.{Explorer, right, Answered, Balances, Apart, Turns, Offered, Stops, Sound}
use Rattle.demands.specs.Exchanged.{Pieces, own, machine_by, explorer_by}

-- Inputs

-- with so many branches, operations and executions
abbrev pub settings : ℕ → ℕ → ℕ → Settings
settings B L N = record { branches = B; operations = L; executions = N; bound = unbounded; exploring = true }

-- buffers that fit, full of something
abbrev pub path_for : Settings → List ℕ
path_for s = replicate (record_bytes * s.branches) 165

abbrev pub trace_for : Settings → List ℕ
trace_for s = replicate (record_bytes * s.operations) 90

-- these sentences do not hold of the explorer, for a table, a condition or none, and settings with buffers that fit
abbrev pub BrokenUnder : (Explorer → List ℕ → List ℕ → Settings → List ℕ → List ℕ → Type 0) → Explorer → List ℕ → List ℕ → Settings → Type 0
BrokenUnder Sentences x table condition s = Sentences x table condition s (path_for s) (trace_for s) → ⊥

abbrev pub Broken : (Explorer → List ℕ → List ℕ → Settings → List ℕ → List ℕ → Type 0) → Explorer → List ℕ → Settings → Type 0
Broken Sentences x table s = BrokenUnder Sentences x table [] s

-- case P3, "thread 0 stores 1, thread 1 loads", with a budget; its right run has five executions and opens four choices
abbrev pub p3_settings : ℕ → Settings
p3_settings N = settings 5 2 N

-- the same under the bound 0, by which its right run has two executions
abbrev pub tight : ℕ → Settings
tight N = record { branches = 5; operations = 2; executions = N; bound = at_most 0; exploring = true }

-- a table whose only row has an opcode that there is not; one thread that stores, then loads; one that loads twice; a thread that
-- yields beside one that loads
abbrev pub no_such_row : List ℕ
no_such_row = table (7 ∷ []) ((row 19 0 0 0 0 0 ∷ []) ∷ [])

abbrev pub store_then_load : List ℕ
store_then_load = table (0 ∷ []) ((store 1 ∷ Worked.load 0 ∷ []) ∷ [])

abbrev pub two_loads : List ℕ
two_loads = table (7 ∷ []) ((Worked.load 0 ∷ Worked.load 0 ∷ []) ∷ [])

abbrev pub yield_and_load : List ℕ
yield_and_load = table (7 ∷ []) ((row 7 0 0 0 0 0 ∷ []) ∷ (Worked.load 0 ∷ []) ∷ [])

-- one thread that has a bit to choose: two executions
abbrev pub aBit : List ℕ
aBit = table (7 ∷ []) ((row 16 0 0 0 0 0 ∷ []) ∷ [])

-- P3, and the loading thread then has a bit to choose
abbrev pub load_then_bit : List ℕ
load_then_bit = table (0 ∷ []) ((store 1 ∷ []) ∷ (Worked.load 0 ∷ row 16 0 0 0 0 0 ∷ []) ∷ [])

-- that thread 1 read 0: false of P3's second execution; bytes that are no condition where there is no thread 1
abbrev pub of_thread_one : List ℕ
of_thread_one = comparing equals 1 0

-- that thread 0 did not read 7: false of the table with one load
abbrev pub not_seven : List ℕ
not_seven = comparing differs 0 7

-- How a part is exchanged

-- what is returned and left, as a function of the definition's and of the input
abbrev pub answering : (Explored → List ℕ → List ℕ → Settings → List ℕ → List ℕ → Explored) → Explorer
answering f = record {
  explored = λ table condition s path trace. f (explored table condition s path trace) table condition s path trace;
  run = right.run;
  executions = right.executions;
}

abbrev pub reporting : (Settings → Report → Report) → Explorer
reporting f = answering (λ it table condition s path trace. record { report = f s it.report; path = it.path; trace = it.trace })

-- with this answer, so many open, and this row at fault
abbrev pub saying : ℕ → ℕ → ℕ → Report → Report
saying answer left at r = record {
  answer = answer;
  begun = r.begun;
  opened = r.opened;
  still_open = left;
  rows = r.rows;
  thread = r.thread;
  row = at;
  kind = r.kind;
  other = r.other;
  threads = r.threads;
}

-- for a table that is refused
abbrev pub refusing : (Explored → List ℕ → List ℕ → Settings → List ℕ → List ℕ → Explored) → Explorer
refusing f = answering (λ it table condition s path trace. cond (eqb it.report.answer 5) (f it table condition s path trace) it)

-- the marks that a question makes, and what follows an execution
abbrev pub with_parts : Parts State → Explorer
with_parts P = explorer_by (record { next = own.next; answered = own.answered; limits = own.limits; parts = P })

abbrev pub following : ((State → Bool) → Bool → List Execution → Tick State → After State) → Explorer
following f = with_parts (record { marks = first_marked; follows = f })

abbrev pub stepping : (List Branch → List Branch) → Explorer
stepping step = with_parts (stepping_by step)

-- the limits
abbrev pub limiting : (Limits → Limits) → Explorer
limiting f = explorer_by (record { next = own.next; answered = own.answered; limits = λ s. f (limits_of s); parts = own.parts })

-- what the machine does next
abbrev pub doing : (Program → State → Event.Event State) → Explorer
doing f = explorer_by (record { next = f; answered = own.answered; limits = own.limits; parts = own.parts })

-- its moves: the state that one leads to, the question asked, and the state that a fault leaves
abbrev pub moved : (State → State) → (Question → Question) → (State → State) → Move State → Move State
moved to asked left (moves s es) = moves (to s) es
moved to asked left (asks s es exploring q) = asks s es exploring (asked q)
moved to asked left (stops s fault) = stops (left s) fault
moved to asked left (ends s) = ends s

abbrev pub same : {A : Type 0} → A → A
same x = x

-- what is offered
abbrev pub offering : (Matched → Matched) → Question → Question
offering f (which_thread points initial standings) = which_thread points initial standings
offering f (which_slot m) = which_slot (f m)
offering f which_bit = which_bit

abbrev pub rescanning : (Program → State → Matched → Matched) → Explorer
rescanning f = doing (λ p st. record {
  site = (next p st).site;
  move = moved same (offering (f p st)) same (next p st).move;
})

-- the state after a thread was chosen, and after a slot was, as functions of the one before and of the definition's
abbrev pub by_answer : (State → State) → (State → State) → Pick → State → State
by_answer chosen read (run_thread whom at) = chosen
by_answer chosen read (read_slot slot offered) = read
by_answer chosen read (take_bit bit) = same

abbrev pub effects : (State → State → State) → (State → State → State) → Pieces
effects chosen read = record {
  next = own.next;
  answered = λ p st a. moved (by_answer (chosen st) (read st) a) same same (answered p st a);
  limits = own.limits;
  parts = own.parts;
}

abbrev pub answered_by : (State → State → State) → (State → State → State) → Explorer
answered_by chosen read = explorer_by (effects chosen read)

-- the records of a path, with other threads' states
abbrev pub restated_branch : (ℕ → ℕ) → Branch → Branch
restated_branch f (schedule s) = schedule (with_states s (map f s.states))
restated_branch f (load l) = load l
restated_branch f (spurious u) = spurious u

abbrev pub instead : ℕ → ℕ → ℕ → ℕ
instead x y state = cond (eqb state x) y state

-- x where the definition has y
abbrev pub restated : ℕ → ℕ → List Branch → List Branch
restated x y = map (restated_branch (instead y x))

-- Demand 1

-- the path buffer is judged before the settings; the trace buffer before the path buffer; the table before all
abbrev pub path_first : Explorer
path_first =
    answering (λ it table condition s path trace. cond (eqb (length path) (record_bytes * s.branches)) it (refused 3 255 255 path trace))

abbrev pub trace_first : Explorer
trace_first =
    answering (λ it table condition s path trace. cond (eqb (length trace) (record_bytes * s.operations)) it (refused 4 255 255 path trace))

abbrev pub table_first : Explorer
table_first = answering (λ it table condition s path trace. elim (judged table) [
  | bad_header ↦ refused 5 255 255 path trace
  | bad_row t k ↦ refused 5 t k path trace
  | good ↦ it
])

-- no table is refused; a bad header is the first row; a bad row is the next one
abbrev pub any_table : Explorer
any_table = refusing (λ it table condition s path trace. ran (length path) (length trace) (stop_of table condition s))

abbrev pub first_row : Explorer
first_row = refusing (λ it table condition s path trace. refused 5 0 0 path trace)

abbrev pub next_row : Explorer
next_row = refusing (λ it table condition s path trace. refused 5 it.report.thread (it.report.row + 1) path trace)

-- the path buffer is cleared before anything is judged, and a run writes it anew
abbrev pub clearing : Explorer
clearing = answering (λ it table condition s path trace.
    cond (is_refusal it.report.answer) (record { report = it.report; path = replicate (length path) 0; trace = it.trace }) it)

-- the trace buffer is as it was past the last entry
abbrev pub leaving_over : Explorer
leaving_over = answering (λ it table condition s path trace.
    let entries = entries_bytes (stop_of table condition s).walk.trace in
    record { report = it.report; path = it.path; trace = entries ++ drop (length entries) trace })

-- the row at fault is the next one
abbrev pub misplacing : Explorer
misplacing = reporting (λ s r. saying r.answer r.still_open (r.row + 1) r)

-- an execution may take one tick
abbrev pub one_tick : Explorer
one_tick = limiting (λ l. record { branches = l.branches; operations = l.operations; bound = l.bound; ticks = 1 })

pub record WrongAnswers : Type 0 where
  -- [one] 20 is answered, which is none of document 01's
  pub one : Broken Answered one_tick one_load (settings 3 1 1)
  -- [two] no execution is allowed and there is no path buffer: 3
  pub two : Answered path_first one_load [] (settings 3 1 0) [] [] → ⊥
  -- [three] there is neither path nor trace buffer: 4
  pub three : Answered trace_first one_load [] (settings 3 1 1) [] [] → ⊥
  -- [four] there is no table and no trace buffer: 5
  pub four : Answered table_first [] [] (settings 3 1 1) (path_for (settings 3 1 1)) [] → ⊥
  -- [five] there is no table: 0
  pub five : Broken Answered any_table [] (settings 3 1 1)
  -- [header] it is said to be row 0 of thread 0
  pub header : Broken Answered first_row [] (settings 3 1 1)
  -- [row] row 0 is bad, and row 1 is named
  pub row : Broken Answered next_row no_such_row (settings 3 1 1)
  -- [five] a thread that there is not is named: 18
  pub no-condition : BrokenUnder Answered any_table one_load of_thread_one (settings 3 1 1)
  -- [claim] and here row 0 of thread 0 is at fault
  pub claim : BrokenUnder Answered first_row one_load of_thread_one (settings 3 1 1)
  -- [leaves] no execution is allowed, and the path buffer is not as it was
  pub leaves : Answered clearing one_load [] (settings 3 1 0) (1 ∷ []) [] → ⊥
  -- [reports] the path is full for the only row, and the next one is named
  pub reports : Broken Answered misplacing one_load (settings 1 1 1)
  -- [ran] one entry, and room for two
  pub ran : Broken Answered leaving_over one_load (settings 3 2 1)

-- The balance

-- what a mark opens is counted twice
abbrev pub twice : Explorer
twice = with_parts (record {
  marks = λ bound l q.
      let m = first_marked bound l q in record { path = m.path; opened = m.opened + (m.opened - l.opened); begun = m.begun };
  follows = after;
})

-- the execution that faults is not counted
abbrev pub not_begun : Tick State → Tick State
not_begun (goes w) = goes w
not_begun (over w) = over w
not_begun (faulted f site w) =
    faulted f site (with_ledger w (record { path = w.ledger.path; opened = w.ledger.opened; begun = w.ledger.begun - 1 }))

abbrev pub faults_not_begun : Explorer
faults_not_begun = following (λ final last past t. after final last past (not_begun t))

-- the last execution is not in the history
abbrev pub untold : Explorer
untold = following (λ final last past t. elim (after final last past t) [
  | stops_here r ↦ stops_here (record { verdict = r.verdict; walk = r.walk; history = past })
  | goes_on l more ↦ goes_on l more
])

-- nothing is said to be open
abbrev pub none_open : Explorer
none_open = reporting (λ s r. saying r.answer 0 r.row r)

pub record WrongBalances : Type 0 where
  -- [equation] two executions have opened two choices, one of them by a mark, and one is open: three are counted
  pub counted-twice : Broken Balances twice store_and_load (p3_settings 2)
  -- [equation] and here one, since what marks open is not counted
  pub not-counted : Broken Balances (with_parts uncounted) store_and_load (p3_settings 2)
  -- [within] after one execution one is counted, and two are open
  pub not_within : Broken Balances (with_parts uncounted) store_and_load (p3_settings 1)
  -- [begun] the only execution finds the path full
  pub not-begun : Broken Balances faults_not_begun one_load (settings 2 1 1)
  -- [opened] after one execution two are opened, and three are counted
  pub not_opened : Broken Balances twice store_and_load (p3_settings 1)
  -- [left] two are open
  pub not_left : Broken Balances none_open store_and_load (p3_settings 1)
  -- [told] one execution, and no history
  pub not-told : Broken Balances untold one_load (settings 3 1 1)

-- The tree and the turning points

-- every execution begins with nothing known, so that the first is run again and again
abbrev pub anew : Explorer
anew = stepping (λ bs. [])

-- a thread that was left can be marked again: it is Skip, and not Visited
abbrev pub forgetful : Explorer
forgetful = stepping (λ bs. restated skip visited (stepped bs))

-- it stops after its first execution, as if nothing were open
abbrev pub early : Explorer
early = following (λ final last past t. stops_here (stop exhausted (left_by t) past))

-- it marks, and never takes what it has marked: Pending is then Visited
abbrev pub untaken : Walk State → Walk State
untaken w =
    let l = w.ledger in
    with_ledger w (record { path = restated visited pending l.path; opened = l.opened; begun = l.begun })

abbrev pub untaken_by : Tick State → Tick State
untaken_by (goes w) = goes (untaken w)
untaken_by (over w) = over (untaken w)
untaken_by (faulted f site w) = faulted f site (untaken w)

abbrev pub never_taking : Explorer
never_taking = following (λ final last past t. after final last past (untaken_by t))

pub record WrongTurns : Type 0 where
  -- the second execution is the first again
  pub apart : Broken Apart anew aBit (settings 2 1 2)
  -- [turns] it turns nowhere
  pub nowhere : Broken Turns anew aBit (settings 2 1 2)
  -- [different] the second and the third have no turning point but the same
  pub same : Broken Turns anew aBit (settings 2 1 3)
  -- [together] a record is dropped with something open: the load's second value is neither turned to nor open
  pub dropped : Broken Turns (with_parts dropping_step) store_and_load (p3_settings 2)
  -- [once] the storing thread is opened again where it was turned to before
  pub again : Broken Turns forgetful store_and_load (p3_settings 6)
  -- [exhausted] 0 is answered, and two are open
  pub left_open : Broken Turns early store_and_load (p3_settings 2)
  -- [exhausted] 0 is answered, nothing is open, and what was marked was no turning point
  pub never-taken : Broken Turns never_taking store_and_load (p3_settings 2)

-- What is offered

-- a load's record keeps only the offers that have not been read
abbrev pub shortened : Branch → Branch
shortened (schedule s) = schedule s
shortened (load l) = load (record { exploring = l.exploring; values = drop l.pos l.values; pos = 0 })
shortened (spurious u) = spurious u

abbrev pub shortening : Explorer
shortening = stepping (λ bs. map shortened (stepped bs))

-- Wrong scans: the page judges a record by the definition's scan, so that one shows where its record answers again

-- the first only is offered, of those that should be
abbrev pub first_only : List Bool → List Bool
first_only [] = []
first_only (true ∷ more) = true ∷ map (λ (b : Bool). false) more
first_only (false ∷ more) = false ∷ first_only more

abbrev pub offers_changed : (List Bool → List Bool) → Matched → Matched
offers_changed f (offers slots) = offers (f slots)
offers_changed f equal = equal

abbrev pub too_few : Explorer
too_few = rescanning (λ p st. offers_changed first_only)

-- every live store is offered
abbrev pub too_many : Explorer
too_many = rescanning (λ p st. offers_changed (map (λ (b : Bool). true)))

-- nothing counts as seen: what is offered is what would be in the state without marks of first sight
abbrev pub with_sights : Marks → State → State
with_sights marks st = with_both st st.clocks marks

abbrev pub no_sights : Marks
no_sights = replicate cells (replicate history (unseens threads))

abbrev pub match_of : Question → Matched → Matched
match_of (which_thread points initial standings) m = m
match_of (which_slot n) m = n
match_of which_bit m = m

abbrev pub offered_in : Move State → Matched → Matched
offered_in (moves s es) m = m
offered_in (asks s es exploring q) m = match_of q m
offered_in (stops s fault) m = m
offered_in (ends s) m = m

abbrev pub blind : Explorer
blind = rescanning (λ p st. offered_in (next p (with_sights no_sights st)).move)

-- a load wipes all marks of first sight; and one leaves them as they were
abbrev pub wiping : Explorer
wiping = answered_by (λ before. same) (λ before. with_sights no_sights)

abbrev pub unseeing : Pieces
unseeing = effects (λ before. same) (λ before. with_sights before.marks)

-- what stands where there is no execution, and no walk
abbrev pub no_walk : Walk State
no_walk = record {
  state = record { clocks = []; marks = []; values = []; numbers = [] };
  ledger = record { path = []; opened = 0; begun = 0 };
  pos = 0;
  trace = [];
}

abbrev pub no_course : Course State
no_course = record { known = []; ticks = []; outcome = over no_walk }

-- the walk from which the loading thread loads, in the second execution of the right run; and the one that a tick leaves
abbrev pub before_load : Walk State
before_load = get_or (get_or (right.executions store_and_load [] (p3_settings 2)) 1 no_course).ticks 4 no_walk

abbrev pub tick_of : Pieces → List ℕ → Settings → Walk State → Walk State
tick_of y table s w = left_by (tick_by (machine_by y (program_of table [] s)) (y.limits s) y.parts w)

pub record WrongOffers : Type 0 where
  -- [offers] the second execution reads slot 1 from a record that says that it alone is offered
  pub shortened : Broken Offered shortening store_and_load (p3_settings 2)
  -- [offers] slot 1 is not offered, to which no store is greater: the second execution passes the record of the first
  pub too-few : Broken Offered too_few load_then_bit (settings 6 3 2)
  -- [told] and in the first execution, where the record is new, the entry of the load says so
  pub too-few-at-first : Broken Balances too_few store_and_load (p3_settings 1)
  -- [offers] slot 0 is offered to the thread that has itself stored slot 1
  pub too-many : Broken Offered too_many store_then_load (settings 4 2 2)
  -- [offers] and so it is where nothing counts as seen
  pub blind : Broken Offered blind store_then_load (settings 4 2 2)
  -- [seen] the thread has seen the cell's start value, and then has not
  pub wiped : Broken Offered wiping one_load (settings 3 1 1)
  -- from a tick to the next, on which [seen] rests: the loading thread reads slot 1, and then has not seen it
  pub unseen :
      Watched (program_of store_and_load [] (p3_settings 2)) (limits_of (p3_settings 2)) before_load (tick_of unseeing store_and_load (p3_settings 2) before_load) → ⊥

-- Why it stopped

-- 1 is answered at the Nth execution, whether something is open or not
abbrev pub spent_at_last : Explorer
spent_at_last = reporting (λ s r. cond (eqb r.begun s.executions) (saying 1 r.still_open r.row r) r)

-- every execution is taken for the last that is allowed
abbrev pub unspent : Explorer
unspent = following (λ final last past t. after final true past t)

-- a fault is taken for the end of its execution
abbrev pub overlooking : Explorer
overlooking = following (λ final last past t. after final last past (over (left_by t)))

-- a condition is judged where the run would go on: behind 0 and 1
abbrev pub judging_last : Explorer
judging_last = following (λ final last past t. elim (after (λ st. true) last past t) [
  | stops_here r ↦ stops_here r
  | goes_on l more ↦ after final last past t
])

-- none is judged; every one counts as false
abbrev pub unjudging : Explorer
unjudging = following (λ final last past t. after (λ st. true) last past t)

abbrev pub condemning : Explorer
condemning = following (λ final last past t. after (λ st. false) last past t)

pub record WrongStops : Type 0 where
  -- [says] the verdict is that nothing is open
  pub said : Broken Stops spent_at_last one_load (settings 3 1 1)
  -- [exhausted] something is open
  pub some-open : Broken Stops early store_and_load (p3_settings 2)
  -- [exhausted] the only execution found the path full
  pub overlooked : Broken Stops overlooking one_load (settings 2 1 1)
  -- [spent] one of two executions has begun
  pub unspent : Broken Stops unspent store_and_load (p3_settings 2)
  -- [unmet] the condition is false at the end of the only execution: 0 is answered
  pub behind-none : BrokenUnder Stops judging_last one_load not_seven (settings 3 1 1)
  -- [met] it is false at the end of the second execution, the last that is allowed: 1 is answered
  pub behind-one : BrokenUnder Stops judging_last store_and_load of_thread_one (p3_settings 2)
  -- [earlier] and here a third begins
  pub unjudged : BrokenUnder Stops unjudging store_and_load of_thread_one (p3_settings 3)
  -- [unmet] there is no condition: 18 is answered
  pub condemned : Broken Stops condemning one_load (settings 3 1 1)
  -- [place] it is said to be row 256
  pub misplaced : BrokenUnder Stops misplacing one_load not_seven (settings 3 1 1)
  -- [fault] a deadlock, which the only execution has not met
  pub invented : Broken Stops (with_parts inventing) store_and_load (p3_settings 1)

-- What holds at every tick

-- one row more than the limit may begin
abbrev pub one_row_more : Explorer
one_row_more = doing (λ p st. next (record { table = p.table; condition = p.condition; operations = p.operations + 1; exploring = p.exploring }) st)

-- "every yielded thread other than the one just chosen becomes runnable": but not thread 0
abbrev pub forgetting_one : Explorer
forgetting_one = answered_by
    (λ before st. with_numbers st (with_number st.numbers (State.state 0) (number before.numbers (State.state 0))))
    (λ before. same)

-- the row that is refused is counted
abbrev pub counting_refused : Explorer
counting_refused = doing (λ p st. record {
  site = (next p st).site;
  move = moved same same (λ left. row_begun left (number left.numbers active_thread)) (next p st).move;
})

-- the chosen thread's version is raised
abbrev pub raising : Explorer
raising = answered_by (λ before st. version_raised st (number st.numbers active_thread)) (λ before. same)

-- a thread that was left is still Active
abbrev pub both_active : Explorer
both_active = stepping (λ bs. restated active visited (stepped bs))

-- every schedule of the next path says that the first is before it, the first too
abbrev pub after_first : Branch → Branch
after_first (schedule s) =
    schedule (record { exploring = s.exploring; states = s.states; preemptions = s.preemptions; initial = s.initial; prev = 0 })
after_first (load l) = load l
after_first (spurious u) = spurious u

abbrev pub pointing : Explorer
pointing = stepping (λ bs. map after_first (stepped bs))

-- the bound is passed over
abbrev pub unheeding : Explorer
unheeding = limiting (λ l. record { branches = l.branches; operations = l.operations; bound = unbounded; ticks = l.ticks })

pub record WrongTicks : Type 0 where
  -- [possible] no tick is left
  pub impossible : Broken Sound one_tick one_load (settings 3 1 1)
  -- [stands] two rows begin where one may
  pub rows : Broken Sound one_row_more two_loads (settings 5 1 1)
  -- [stands] thread 0 has yielded, and another runs
  pub asleep : Broken Sound forgetting_one yield_and_load (settings 5 2 1)
  -- [stood] the second row is refused, and two are counted
  pub refused : Broken Sound counting_refused two_loads (settings 5 1 1)
  -- [ranges] one row has raised a version by two
  pub raised : Broken Sound raising one_load (settings 3 1 1)
  -- [records] two threads are Active in the first record of the third execution
  pub two-active : Broken Sound both_active store_and_load (p3_settings 3)
  -- [records] the first record has one before it
  pub pointed : Broken Sound pointing store_and_load (p3_settings 2)
  -- [records] the bound is 0, and the third execution begins with a preemption
  pub past_bound : Broken Sound unheeding store_and_load (tight 3)
  -- [follows] the record does not agree with what is asked
  pub disagreeing : Broken Sound shortening store_and_load (p3_settings 2)

pub record Wrong : Type 0 where
  pub answers : WrongAnswers
  pub balances : WrongBalances
  pub turns : WrongTurns
  pub offers : WrongOffers
  pub stops : WrongStops
  pub ticks : WrongTicks
