-- What the wrong explorers' runs come to, computed. Assumes nothing.
--     is_over .. asks_slot       what is read off an outcome, a record, a move
--     report_for .. sees        what is looked at: reports, executions, ticks
--     Computed, computed       what they come to
use Prim.Native.Nat.{ℕ}
use mathlib.Core.List.{List, [], ◌∷◌, map}
use mathlib.Core.Bool.{Bool, true, false}
use mathlib.Core.Path.{◌≡◌, refl}
use lib.Dec.{ltb}
use lib.ListN.{length, get_or}
use Rattle.rules.specs.Cell as Cell
use Rattle.rules.specs.Cell.{seen_by, slot_of}
use Rattle.rules.specs.Condition as Condition
use Rattle.rules.specs.Condition.{is_condition}
use Rattle.rules.specs.Event as Event
use Rattle.rules.specs.Event.{Matched, offers, equal, slots_of, Question, which_thread, which_slot, which_bit, Move, moves, asks, stops, ends, Entry}
use Rattle.rules.specs.Explored as Explored
use Rattle.rules.specs.Explored.{Settings, Report, reported, is_refusal, settings_fine, trace_left, verdict_number, program_of, limits_of}
use Rattle.rules.specs.Explorer as Runs
use Rattle.rules.specs.Explorer.{Stop, empty, Walk, Tick, goes, over, faulted, exhausted, spent, unmet, stopped}
use Rattle.rules.specs.Machine as Machine
use Rattle.rules.specs.Machine.{machine, next, final, current, active_op}
use Rattle.rules.specs.Path as Path
use Rattle.rules.specs.Path.{Branch, schedule, load, spurious, no_branch, Choice, choice_of}
use Rattle.rules.specs.Seen as Seen
use Rattle.rules.specs.State as State
use Rattle.rules.specs.State.{State, vector, number, marks_of, count}
use Rattle.rules.specs.Table as Table
use Rattle.rules.specs.Table.{judged, good, bad_header, bad_row, threads_of}
use Rattle.rules.specs.Vector as Vector
use Rattle.rules.specs.Worked as Worked
use Rattle.rules.specs.Worked.{one_load, store_and_load}
use Rattle.ledger.specs.Wrong.{walked_by, run_from_by, run_by, stepped_first, uncounted, dropping_step, inventing}
use Rattle.ledger.specs.History.{Course, end, ticks_from, course_of, courses_from, courses}
use Rattle.ledger.specs.Tree.{no_execution}
use Rattle.ledger.specs.Turning.{running, turning_point, threads_from, alternatives, open_names, newly_pending, marked_alternatives, opened_names, joined_over}
use Rattle.offers.specs.Chosen.{tick_left}
use Rattle.demands.specs.Demands.{Explorer, right, LastIs, it, report, opened_choices, turned_choices, open_choices}
use Rattle.demands.specs.Exchanged.{ticks_from_by, course_by, courses_from_by, courses_by, running_by}
use Rattle.demands.specs.Wrong as Wrong
use Rattle.demands.specs.Wrong.{settings, p3_settings, tight, path_for, trace_for, no_such_row, of_thread_one, not_seven, aBit, store_then_load, two_loads, yield_and_load, load_then_bit, with_parts, no_course, no_walk}

-- What is read off

-- 1 where an execution was over
abbrev pub is_over : Tick State → ℕ
is_over (goes w) = 0
is_over (over w) = 1
is_over (faulted f s w) = 0

-- the fault that was met; one that is not impossible where none was
abbrev pub fault_in : Tick State → Event.Fault
fault_in (goes w) = Event.deadlock
fault_in (over w) = Event.deadlock
fault_in (faulted f s w) = f

abbrev pub is_good : Table.Judged → ℕ
is_good good = 1
is_good bad_header = 0
is_good (bad_row t k) = 0

-- the values and the states of a record
abbrev pub values_in : Branch → List ℕ
values_in (schedule r) = []
values_in (load l) = l.values
values_in (spurious u) = []

abbrev pub states_in : Branch → List ℕ
states_in (schedule r) = r.states
states_in (load l) = []
states_in (spurious u) = []

-- the preemptions up to a schedule and with it
abbrev pub preemptions_in : Branch → ℕ
preemptions_in (schedule r) = Path.preemptions_with r
preemptions_in (load l) = 0
preemptions_in (spurious u) = 0

-- where the record before is; of no schedule there is none
abbrev pub prev_in : Branch → ℕ
prev_in (schedule r) = r.prev
prev_in (load l) = Path.no_prev
prev_in (spurious u) = Path.no_prev

-- the cell of a load or an RMW
abbrev pub cell_pending : Machine.Pending → ℕ
cell_pending Machine.nothing = 0
cell_pending (Machine.pends operation cell) = cell

abbrev pub cell_in : Table.Decoded Table.Op → ℕ
cell_in row = cell_pending (Machine.pending_as (Machine.role_in row))

abbrev pub slots_in : Matched → List ℕ
slots_in (offers slots) = slots_of slots
slots_in equal = []

abbrev pub match_in : Question → Matched
match_in (which_thread points initial standings) = equal
match_in (which_slot m) = m
match_in which_bit = equal

abbrev pub question_in : Move State → Question
question_in (moves s es) = which_bit
question_in (asks s es exploring q) = q
question_in (stops s f) = which_bit
question_in (ends s) = which_bit

abbrev pub state_in : Move State → State
state_in (moves s es) = s
state_in (asks s es exploring q) = s
state_in (stops s f) = s
state_in (ends s) = s

abbrev pub entries_in : Move State → List Entry
entries_in (moves s es) = es
entries_in (asks s es exploring q) = es
entries_in (stops s f) = []
entries_in (ends s) = []

abbrev pub exploring_in : Move State → Bool
exploring_in (moves s es) = false
exploring_in (asks s es exploring q) = exploring
exploring_in (stops s f) = false
exploring_in (ends s) = false

abbrev pub is_slot : Question → ℕ
is_slot (which_thread points initial standings) = 0
is_slot (which_slot m) = 1
is_slot which_bit = 0

abbrev pub asks_slot : Move State → ℕ
asks_slot (moves s es) = 0
asks_slot (asks s es exploring q) = is_slot q
asks_slot (stops s f) = 0
asks_slot (ends s) = 0

-- What is looked at

abbrev pub left_under : Explorer → List ℕ → List ℕ → Settings → Explored.Explored
left_under x table condition s = it x table condition s (path_for s) (trace_for s)

-- without a condition
abbrev pub left_for : Explorer → List ℕ → Settings → Explored.Explored
left_for x table s = left_under x table [] s

abbrev pub report_for : Explorer → List ℕ → Settings → Report
report_for x table s = (left_for x table s).report

-- the run's stop, its executions, and one of them
abbrev pub stop_by : Explorer → List ℕ → Settings → Stop State
stop_by x table s = x.run table [] s

abbrev pub made_by : Explorer → List ℕ → Settings → List (Course State)
made_by x table s = x.executions table [] s

abbrev pub course_at : Explorer → List ℕ → Settings → ℕ → Course State
course_at x table s i = get_or (made_by x table s) i no_course

-- the choices of one in the history
abbrev pub choices_in : Explorer → List ℕ → Settings → ℕ → List Choice
choices_in x table s i = (get_or (stop_by x table s).history i no_execution).choices

-- the mask of an execution's trace entry
abbrev pub mask_in : ℕ → Course State → ℕ
mask_in k c = get_or (map (λ (e : Entry). e.mask) (end c).trace) k 0

-- what the report counts
pub record Counts (x : Explorer) (table : List ℕ) (s : Settings) (b o l : ℕ) : Type 0 where
  pub begun : (report_for x table s).begun ≡ b
  pub opened : (report_for x table s).opened ≡ o
  pub left : (report_for x table s).still_open ≡ l

-- tick k of execution i
abbrev pub walk_at : Explorer → List ℕ → Settings → ℕ → ℕ → Walk State
walk_at x table s i k = get_or (course_at x table s i).ticks k no_walk

abbrev pub move_at : Explorer → List ℕ → Settings → ℕ → ℕ → Move State
move_at x table s i k = (next (program_of table [] s) (walk_at x table s i k).state).move

-- the walk that the definition's tick leaves there, and the record that answers
abbrev pub left_at : Explorer → List ℕ → Settings → ℕ → ℕ → Walk State
left_at x table s i k = tick_left (program_of table [] s) (limits_of s) (walk_at x table s i k)

abbrev pub answering_at : Explorer → List ℕ → Settings → ℕ → ℕ → Branch
answering_at x table s i k = get_or (left_at x table s i k).ledger.path (walk_at x table s i k).pos no_branch

-- the path that execution i knew when it began
abbrev pub known_by : Explorer → List ℕ → Settings → ℕ → List Branch
known_by x table s i = (course_at x table s i).known

abbrev pub sees : Walk State → ℕ → ℕ → ℕ → Bool
sees w t c i = seen_by w.state.clocks (marks_of w.state.marks c) t i

-- whether the condition holds at the end of execution i
abbrev pub ends_under : Explorer → List ℕ → List ℕ → Settings → ℕ → Bool
ends_under x table condition s i = final (program_of table condition s) (end (get_or (x.executions table condition s) i no_course)).state

-- there is such a tick
pub record There (x : Explorer) (table : List ℕ) (s : Settings) (i k : ℕ) : Type 0 where
  pub made : ltb i (length (made_by x table s)) ≡ true
  pub ticked : ltb k (length (course_at x table s i).ticks) ≡ true

-- it asks for a slot, which is known; the record there has so many values, and so many are offered
pub record Misoffers (x : Explorer) (table : List ℕ) (s : Settings) (i k a b : ℕ) : Type 0 where
  pub asked : asks_slot (move_at x table s i k) ≡ 1
  pub passed : ltb (walk_at x table s i k).pos (left_at x table s i k).pos ≡ true
  pub values : length (values_in (answering_at x table s i k)) ≡ a
  pub slots : length (slots_in (match_in (question_in (move_at x table s i k)))) ≡ b

pub record Computed : Type 0 where
  -- Demand 1
  pub no_answer : (report_for Wrong.one_tick one_load (settings 3 1 1)).answer ≡ 20
  pub not-fine : settings_fine (settings 3 1 0) ≡ false
  pub fine : settings_fine (settings 3 1 1) ≡ true
  pub three-first : (report Wrong.path_first one_load [] (settings 3 1 0) [] []).answer ≡ 3
  pub four-first : (report Wrong.trace_first one_load [] (settings 3 1 1) [] []).answer ≡ 4
  pub five-first : (report Wrong.table_first [] [] (settings 3 1 1) (path_for (settings 3 1 1)) []).answer ≡ 5
  pub not_good : judged [] ≡ bad_header
  pub taken : (report_for Wrong.any_table [] (settings 3 1 1)).answer ≡ 0
  pub header-five : (report_for Wrong.first_row [] (settings 3 1 1)).answer ≡ 5
  pub header-thread : (report_for Wrong.first_row [] (settings 3 1 1)).thread ≡ 0
  pub bad-row : judged no_such_row ≡ bad_row 0 0
  pub row-five : (report_for Wrong.next_row no_such_row (settings 3 1 1)).answer ≡ 5
  pub row-row : (report_for Wrong.next_row no_such_row (settings 3 1 1)).row ≡ 1
  pub claim-none : is_condition (threads_of one_load) of_thread_one ≡ false
  pub claim-good : judged one_load ≡ good
  pub claim-taken : (left_under Wrong.any_table one_load of_thread_one (settings 3 1 1)).report.answer ≡ 18
  pub claim-five : (left_under Wrong.first_row one_load of_thread_one (settings 3 1 1)).report.answer ≡ 5
  pub claim-thread : (left_under Wrong.first_row one_load of_thread_one (settings 3 1 1)).report.thread ≡ 0
  pub cleared : is_refusal (report Wrong.clearing one_load [] (settings 3 1 0) (1 ∷ []) []).answer ≡ true
  pub cleared-path : get_or (it Wrong.clearing one_load [] (settings 3 1 0) (1 ∷ []) []).path 0 0 ≡ 0
  pub misplaced-ran : is_refusal (report_for Wrong.misplacing one_load (settings 1 1 1)).answer ≡ false
  pub misplaced : (report_for Wrong.misplacing one_load (settings 1 1 1)).row ≡ 1
  pub placed : (reported (stop_by Wrong.misplacing one_load (settings 1 1 1))).row ≡ 0
  pub over-ran : is_refusal (report_for Wrong.leaving_over one_load (settings 3 2 1)).answer ≡ false
  pub left_over : get_or (left_for Wrong.leaving_over one_load (settings 3 2 1)).trace 16 0 ≡ 90
  pub zero-past : get_or (trace_left 32 (stop_by Wrong.leaving_over one_load (settings 3 2 1)).walk.trace) 16 0 ≡ 0
  -- The balance
  pub twice : Counts Wrong.twice store_and_load (p3_settings 2) 2 3 1
  pub uncounted-two : Counts (with_parts uncounted) store_and_load (p3_settings 2) 2 1 1
  pub uncounted-one : Counts (with_parts uncounted) store_and_load (p3_settings 1) 1 1 2
  pub fault-begun : (report_for Wrong.faults_not_begun one_load (settings 2 1 1)).begun ≡ 0
  pub fault-made : length (made_by Wrong.faults_not_begun one_load (settings 2 1 1)) ≡ 1
  pub twice-counted : (report_for Wrong.twice store_and_load (p3_settings 1)).opened ≡ 3
  pub twice-opened : length (opened_choices Wrong.twice store_and_load [] (p3_settings 1) [] []) ≡ 2
  pub none-open : (report_for Wrong.none_open store_and_load (p3_settings 1)).still_open ≡ 0
  pub some-open : length (open_choices Wrong.none_open store_and_load [] (p3_settings 1) [] []) ≡ 2
  pub untold-made : length (made_by Wrong.untold one_load (settings 3 1 1)) ≡ 1
  pub untold : length (stop_by Wrong.untold one_load (settings 3 1 1)).history ≡ 0
  -- The tree and the turning points
  pub anew-made : length (made_by Wrong.anew aBit (settings 2 1 2)) ≡ 2
  pub anew-told : length (stop_by Wrong.anew aBit (settings 2 1 2)).history ≡ 2
  pub anew-same : choices_in Wrong.anew aBit (settings 2 1 2) 0 ≡ choices_in Wrong.anew aBit (settings 2 1 2) 1
  pub anew-point : length (turning_point (course_at Wrong.anew aBit (settings 2 1 2) 1)) ≡ 0
  pub anew-turned : turned_choices Wrong.anew aBit [] (settings 2 1 3) [] [] ≡ [] ∷ [] ∷ []
  pub dropped-opened : length (opened_choices (with_parts dropping_step) store_and_load [] (p3_settings 2) [] []) ≡ 3
  pub dropped-turned : length (turned_choices (with_parts dropping_step) store_and_load [] (p3_settings 2) [] []) ≡ 1
  pub dropped-open : length (open_choices (with_parts dropping_step) store_and_load [] (p3_settings 2) [] []) ≡ 1
  pub forgetful-opened : length (opened_choices Wrong.forgetful store_and_load [] (p3_settings 6) [] []) ≡ 6
  pub forgetful-first : get_or (opened_choices Wrong.forgetful store_and_load [] (p3_settings 6) [] []) 2 [] ≡ running 1 ∷ running 0 ∷ []
  pub forgetful-again : get_or (opened_choices Wrong.forgetful store_and_load [] (p3_settings 6) [] []) 5 [] ≡ running 1 ∷ running 0 ∷ []
  pub early : (report_for Wrong.early store_and_load (p3_settings 2)).answer ≡ 0
  pub early-open : (report_for Wrong.early store_and_load (p3_settings 2)).still_open ≡ 2
  pub early-verdict : (stop_by Wrong.early store_and_load (p3_settings 2)).verdict ≡ exhausted
  pub untaken : (report_for Wrong.never_taking store_and_load (p3_settings 2)).answer ≡ 0
  pub untaken-opened : length (opened_choices Wrong.never_taking store_and_load [] (p3_settings 2) [] []) ≡ 2
  pub untaken-turned : length (turned_choices Wrong.never_taking store_and_load [] (p3_settings 2) [] []) ≡ 1
  -- Why it stopped
  pub spent-last : (report_for Wrong.spent_at_last one_load (settings 3 1 1)).answer ≡ 1
  pub exhausted-last : verdict_number (stop_by Wrong.spent_at_last one_load (settings 3 1 1)).verdict ≡ 0
  pub overlooked : (stop_by Wrong.overlooking one_load (settings 2 1 1)).verdict ≡ exhausted
  pub overlooked-listed : length (made_by Wrong.overlooking one_load (settings 2 1 1)) ≡ 1
  pub overlooked-last : is_over (course_at Wrong.overlooking one_load (settings 2 1 1) 0).outcome ≡ 0
  pub unspent : (report_for Wrong.unspent store_and_load (p3_settings 2)).begun ≡ 1
  pub unspent-verdict : (stop_by Wrong.unspent store_and_load (p3_settings 2)).verdict ≡ spent
  pub invented : (stop_by (with_parts inventing) store_and_load (p3_settings 1)).verdict ≡ stopped Event.deadlock Event.no_site
  pub invented-listed : length (made_by (with_parts inventing) store_and_load (p3_settings 1)) ≡ 1
  pub invented-last : is_over (course_at (with_parts inventing) store_and_load (p3_settings 1) 0).outcome ≡ 1
  pub none-verdict : ((Wrong.judging_last).run one_load not_seven (settings 3 1 1)).verdict ≡ exhausted
  pub none_last :
      LastIs ((Wrong.judging_last).executions one_load not_seven (settings 3 1 1)) (over ((Wrong.judging_last).run one_load not_seven (settings 3 1 1)).walk)
  pub none-false :
      final (program_of one_load not_seven (settings 3 1 1)) ((Wrong.judging_last).run one_load not_seven (settings 3 1 1)).walk.state ≡ false
  pub one-said : (left_under Wrong.judging_last store_and_load of_thread_one (p3_settings 2)).report.answer ≡ 1
  pub one-made : length ((Wrong.judging_last).executions store_and_load of_thread_one (p3_settings 2)) ≡ 2
  pub one-false : ends_under Wrong.judging_last store_and_load of_thread_one (p3_settings 2) 1 ≡ false
  pub unjudged-made : length ((Wrong.unjudging).executions store_and_load of_thread_one (p3_settings 3)) ≡ 3
  pub unjudged-false : ends_under Wrong.unjudging store_and_load of_thread_one (p3_settings 3) 1 ≡ false
  pub condemned : (stop_by Wrong.condemning one_load (settings 3 1 1)).verdict ≡ unmet
  pub condemned-true : final (program_of one_load [] (settings 3 1 1)) (stop_by Wrong.condemning one_load (settings 3 1 1)).walk.state ≡ true
  pub place-said : (left_under Wrong.misplacing one_load not_seven (settings 3 1 1)).report.answer ≡ 18
  pub place-row : (left_under Wrong.misplacing one_load not_seven (settings 3 1 1)).report.row ≡ 256
  -- What is offered
  pub shortened-there : There Wrong.shortening store_and_load (p3_settings 2) 1 4
  pub shortened : Misoffers Wrong.shortening store_and_load (p3_settings 2) 1 4 1 2
  pub few-there : There Wrong.too_few load_then_bit (settings 6 3 2) 1 4
  pub few : Misoffers Wrong.too_few load_then_bit (settings 6 3 2) 1 4 1 2
  pub few-made : length (made_by Wrong.too_few store_and_load (p3_settings 1)) ≡ 1
  pub few-mask : mask_in 1 (course_at Wrong.too_few store_and_load (p3_settings 1) 0) ≡ 1
  pub right-mask : mask_in 1 (course_of (machine (program_of store_and_load [] (p3_settings 1))) (limits_of (p3_settings 1)) empty) ≡ 3
  pub many-there : There Wrong.too_many store_then_load (settings 4 2 2) 1 3
  pub many : Misoffers Wrong.too_many store_then_load (settings 4 2 2) 1 3 2 1
  pub blind-there : There Wrong.blind store_then_load (settings 4 2 2) 1 3
  pub blind : Misoffers Wrong.blind store_then_load (settings 4 2 2) 1 3 2 1
  pub wiped-there : There Wrong.wiping one_load (settings 3 1 1) 0 2
  pub wiped-seen : sees (walk_at Wrong.wiping one_load (settings 3 1 1) 0 1) 0 0 0 ≡ true
  pub wiped-unseen : sees (walk_at Wrong.wiping one_load (settings 3 1 1) 0 2) 0 0 0 ≡ false
  pub wiped-slot : slot_of (number (walk_at Wrong.wiping one_load (settings 3 1 1) 0 1).state.numbers (count 0)) ≡ 1
  pub ticks-there : There right store_and_load (p3_settings 2) 1 4
  pub ticks-asked : asks_slot (move_at right store_and_load (p3_settings 2) 1 4) ≡ 1
  pub ticks-passed : ltb (walk_at right store_and_load (p3_settings 2) 1 4).pos (left_at right store_and_load (p3_settings 2) 1 4).pos ≡ true
  pub ticks-branch : choice_of (answering_at right store_and_load (p3_settings 2) 1 4) ≡ Path.reads 1
  pub ticks-thread : current (state_in (move_at right store_and_load (p3_settings 2) 1 4)) ≡ 1
  pub ticks-cell : cell_in (active_op (program_of store_and_load [] (p3_settings 2)) (state_in (move_at right store_and_load (p3_settings 2) 1 4))) ≡ 0
  pub ticks-unseen : sees (Wrong.tick_of Wrong.unseeing store_and_load (p3_settings 2) Wrong.before_load) 1 0 1 ≡ false
  -- What holds at every tick
  pub no-ticks : length (made_by Wrong.one_tick one_load (settings 3 1 1)) ≡ 1
  pub no-tick : fault_in (course_at Wrong.one_tick one_load (settings 3 1 1) 0).outcome ≡ Event.impossible
  pub rows-there : There Wrong.one_row_more two_loads (settings 5 1 1) 0 3
  pub rows-begun : number (walk_at Wrong.one_row_more two_loads (settings 5 1 1) 0 3).state.numbers State.rows_begun ≡ 2
  pub asleep-there : There Wrong.forgetting_one yield_and_load (settings 5 2 1) 0 2
  pub asleep-active : current (walk_at Wrong.forgetting_one yield_and_load (settings 5 2 1) 0 2).state ≡ 1
  pub asleep : number (walk_at Wrong.forgetting_one yield_and_load (settings 5 2 1) 0 2).state.numbers (State.state 0) ≡ Machine.yielded
  pub refused-made : length (made_by Wrong.counting_refused two_loads (settings 5 1 1)) ≡ 1
  pub refused-begun : number (end (course_at Wrong.counting_refused two_loads (settings 5 1 1) 0)).state.numbers State.rows_begun ≡ 2
  pub raised-there : There Wrong.raising one_load (settings 3 1 1) 0 2
  pub raised-version : get_or (vector (walk_at Wrong.raising one_load (settings 3 1 1) 0 2).state.clocks (State.causality 0)) 0 0 ≡ 4
  pub raised-rows : number (walk_at Wrong.raising one_load (settings 3 1 1) 0 2).state.numbers (State.rows_of 0) ≡ 1
  pub active-made : length (made_by Wrong.both_active store_and_load (p3_settings 3)) ≡ 3
  pub active-known : length (known_by Wrong.both_active store_and_load (p3_settings 3) 2) ≡ 1
  pub active-first : get_or (states_in (get_or (known_by Wrong.both_active store_and_load (p3_settings 3) 2) 0 no_branch)) 0 0 ≡ 4
  pub active-second : get_or (states_in (get_or (known_by Wrong.both_active store_and_load (p3_settings 3) 2) 0 no_branch)) 1 0 ≡ 4
  pub past-made : length (made_by Wrong.unheeding store_and_load (tight 3)) ≡ 3
  pub past_first : preemptions_in (get_or (known_by Wrong.unheeding store_and_load (tight 3) 2) 0 no_branch) ≡ 1
  pub pointed-made : length (made_by Wrong.pointing store_and_load (p3_settings 2)) ≡ 2
  pub pointed-known : length (known_by Wrong.pointing store_and_load (p3_settings 2) 1) ≡ 4
  pub pointed-first : prev_in (get_or (known_by Wrong.pointing store_and_load (p3_settings 2) 1) 0 no_branch) ≡ 0

pub computed : Computed
unfolding Cell.load_synced Cell.store_synced Cell.fate_from Cell.load_fate Cell.rmw_fate Cell.matched_from Cell.matched_load
    Cell.matched_rmw Cell.load_race Cell.store_race Cell.load_tracked Cell.store_tracked Cell.coherent_from Cell.coherent
    Cell.touch_done Cell.store_order_from Cell.store_order Cell.store_done Cell.sighted Cell.load_done Event.little Event.entry_bytes
    Event.slots_from Explored.summary Explored.refused Explored.verdict_site Explored.reported Explored.entries_bytes
    Explored.trace_left Explored.stop_of Explored.ran Explored.settings_fine Explored.explored Runs.all_marked Runs.seed_of Runs.pushed
    Runs.all_below Runs.reply Runs.tick Runs.walked Runs.execution Runs.after Runs.run_from Runs.run Machine.for_threads
    Machine.blank Machine.cells_made Machine.plains_made Machine.threads_started Machine.start Machine.conflict Machine.fewest_from Machine.initial
    Machine.standing Machine.schedules Machine.access_made Machine.others_awake Machine.switched Machine.all_over Machine.scheduled
    Machine.stores Machine.joins Machine.some_can_run Machine.acts_as Machine.begins Machine.thread_ended Machine.next_at
    Machine.next Machine.mask_of Machine.read_from Machine.bit_taken Machine.answered Machine.final Condition.compared Condition.comparison_at Condition.condition_at Condition.is_condition Condition.holds Path.encoded Path.encoded_all Path.written
    Path.first_in Path.active_of Path.toggled Path.preemptions_with Path.last_schedule Path.thread_added Path.load_added
    Path.spurious_added Path.marked Path.made_pending Path.takes_marks Path.schedule_marked Path.schedule_at Path.exploring_below
    Path.schedules_below Path.switch_in Path.marked_before Path.backtracked Path.pendings Path.open_at Path.open_in Path.turned
    Path.turned_branch Path.stepped Path.choice_of Seen.seen_through Seen.seen Seen.seen_before_yield Seen.touched Seen.touched_at
    Table.u16_at Table.u32_at Table.u64_at Table.counts_of Table.counts_fine Table.total Table.header_fine Table.first_rows
    Table.start_value Table.row_from Table.row_at Table.change_decoded Table.row_decoded Table.op_at Table.first_not Table.first_bad
    Table.rows_judged Table.judged Vector.at_most Vector.equal Vector.less Vector.joined Vector.ahead Vector.raised
    Worked.rows_as_bytes Worked.threads_as_bytes Worked.values_as_bytes Worked.table_with walked_by run_from_by run_by stepped_first
    ticks_from_by course_by courses_from_by courses_by running_by ticks_from course_of courses_from courses threads_from alternatives
    open_names newly_pending marked_alternatives opened_names joined_over
computed = record {
  no_answer = refl;
  not-fine = refl;
  fine = refl;
  three-first = refl;
  four-first = refl;
  five-first = refl;
  not_good = refl;
  taken = refl;
  header-five = refl;
  header-thread = refl;
  bad-row = refl;
  row-five = refl;
  row-row = refl;
  claim-none = refl;
  claim-good = refl;
  claim-taken = refl;
  claim-five = refl;
  claim-thread = refl;
  cleared = refl;
  cleared-path = refl;
  misplaced-ran = refl;
  misplaced = refl;
  placed = refl;
  over-ran = refl;
  left_over = refl;
  zero-past = refl;
  twice = record { begun = refl; opened = refl; left = refl };
  uncounted-two = record { begun = refl; opened = refl; left = refl };
  uncounted-one = record { begun = refl; opened = refl; left = refl };
  fault-begun = refl;
  fault-made = refl;
  twice-counted = refl;
  twice-opened = refl;
  none-open = refl;
  some-open = refl;
  untold-made = refl;
  untold = refl;
  anew-made = refl;
  anew-told = refl;
  anew-same = refl;
  anew-point = refl;
  anew-turned = refl;
  dropped-opened = refl;
  dropped-turned = refl;
  dropped-open = refl;
  forgetful-opened = refl;
  forgetful-first = refl;
  forgetful-again = refl;
  early = refl;
  early-open = refl;
  early-verdict = refl;
  untaken = refl;
  untaken-opened = refl;
  untaken-turned = refl;
  spent-last = refl;
  exhausted-last = refl;
  overlooked = refl;
  overlooked-listed = refl;
  overlooked-last = refl;
  unspent = refl;
  unspent-verdict = refl;
  invented = refl;
  invented-listed = refl;
  invented-last = refl;
  none-verdict = refl;
  none_last = refl;
  none-false = refl;
  one-said = refl;
  one-made = refl;
  one-false = refl;
  unjudged-made = refl;
  unjudged-false = refl;
  condemned = refl;
  condemned-true = refl;
  place-said = refl;
  place-row = refl;
  shortened-there = record { made = refl; ticked = refl };
  shortened = record { asked = refl; passed = refl; values = refl; slots = refl };
  few-there = record { made = refl; ticked = refl };
  few = record { asked = refl; passed = refl; values = refl; slots = refl };
  few-made = refl;
  few-mask = refl;
  right-mask = refl;
  many-there = record { made = refl; ticked = refl };
  many = record { asked = refl; passed = refl; values = refl; slots = refl };
  blind-there = record { made = refl; ticked = refl };
  blind = record { asked = refl; passed = refl; values = refl; slots = refl };
  wiped-there = record { made = refl; ticked = refl };
  wiped-seen = refl;
  wiped-unseen = refl;
  wiped-slot = refl;
  ticks-there = record { made = refl; ticked = refl };
  ticks-asked = refl;
  ticks-passed = refl;
  ticks-branch = refl;
  ticks-thread = refl;
  ticks-cell = refl;
  ticks-unseen = refl;
  no-ticks = refl;
  no-tick = refl;
  rows-there = record { made = refl; ticked = refl };
  rows-begun = refl;
  asleep-there = record { made = refl; ticked = refl };
  asleep-active = refl;
  asleep = refl;
  refused-made = refl;
  refused-begun = refl;
  raised-there = record { made = refl; ticked = refl };
  raised-version = refl;
  raised-rows = refl;
  active-made = refl;
  active-known = refl;
  active-first = refl;
  active-second = refl;
  past-made = refl;
  past_first = refl;
  pointed-made = refl;
  pointed-known = refl;
  pointed-first = refl;
}
