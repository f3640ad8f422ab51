-- The machine: threads, their scheduling and what each row does: document 01, "Support rules", "Opcodes" and "Interpreter". It
-- never sees the path: it asks, and goes on with the answer. Assumes nothing.
--     start         the state at the start of each execution
--     next          what the active thread does next
--     answered      how it goes on with a thread, a slot or a bit
--     machine       the three, and the final condition, for a table
use Rattle.std.specs.Prelude.{ℕ, zero, suc, ◌+◌, ◌^◌, List, [], ◌∷◌, map, Bool, true, false, cond, not, ◌&&◌, ◌||◌, ltb, leb, eqb, get_or, set, replicate}
use Rattle.std.specs.Int.Bits.{bit_or}
use Rattle.rules.specs.Vector.{zeros, joined, at_most, raised, one_more, Whom, nobody, thread}
use Rattle.rules.specs.Seen.{unseens}
use Rattle.rules.specs.Table as Table
use Rattle.rules.specs.Table.{Op, Decoded, refused, decoded, op_at, opcode_of, room_of, start_value, threads_of, cells_of, plains_of, counts_of, first_rows}
use Rattle.rules.specs.Change.{Change}
use Rattle.rules.specs.Condition.{holds}
use Rattle.rules.specs.Event as Event
use Rattle.rules.specs.Event.{Entry, Matched, Point, nowhere, branch, Standing, which_thread, which_slot, which_bit, Pick, run_thread, read_slot, take_bit, no_site, Move, Machine, moves, asks, stops, ends}
use Rattle.rules.specs.State as State
use Rattle.rules.specs.State.{State, Clocks, Numbers, vector, with_vector, value, with_value, number, with_number, marks_of, register_at, vectors_held, values_held, numbers_held, threads, cells, history, none}
use Rattle.rules.specs.State.{causality, schedule_of, mutated, last_access, last_non_load, of_register, of_store, next_row, rows_of, yields, last_yield, operation, operates_on, phase, awaits, count, access_branch, non_load_branch, active_thread, rows_begun, exploring, skipping}
use Rattle.rules.specs.Plain.{plain_read_done, plain_write_race, plain_write_done}
use Rattle.rules.specs.Cell.{join_into, version, slot_of, newest, store_done, store_race, store_tracked, load_done, rmw_done, unsync_load_done, mut_done, newest_of, fenced, matched_load, matched_rmw, AccessResult, raced, read, Race, no_race, race_of, with_clocks, with_values}

-- A program: the bytes of its table and of its final condition, the operation limit, and whether it is exploring on start
pub record Program : Type 0 where
  pub table : List ℕ
  pub condition : List ℕ
  pub operations : ℕ
  pub exploring : Bool

abbrev pub row_count : Program → ℕ → ℕ
row_count p t = get_or (counts_of p.table) t 0

-- what the row at a place of a thread does
abbrev pub row_of : Program → ℕ → ℕ → Decoded Op
row_of p t k =
    op_at p.table (room_of p.table (row_count p t) k) (get_or (first_rows 0 (counts_of p.table)) t 0 + k)

-- Threads

-- "state (0 absent, 1 runnable, 2 blocked, 3 yielded, 4 ended)"
abbrev pub absent : ℕ
absent = 0

abbrev pub runnable : ℕ
runnable = 1

abbrev pub blocked : ℕ
blocked = 2

abbrev pub yielded : ℕ
yielded = 3

abbrev pub ended : ℕ
ended = 4

abbrev pub is_in : Numbers → ℕ → ℕ → Bool
is_in numbers x t = eqb (number numbers (State.state t)) x

-- a thread's row is to begin, or has begun and is to act: a thread that is switched out there goes on with it [Q1]
abbrev pub to_begin : ℕ
to_begin = 0

abbrev pub to_act : ℕ
to_act = 1

-- a thread's pending operation: none, or that of opcode 0, of 1 and 2, of 3
abbrev pub no_operation : ℕ
no_operation = 0

abbrev pub aLoad : ℕ
aLoad = 1

abbrev pub aStore : ℕ
aStore = 2

abbrev pub an_rmw : ℕ
an_rmw = 3

abbrev pub with_numbers : State → Numbers → State
with_numbers st numbers = record { clocks = st.clocks; marks = st.marks; values = st.values; numbers = numbers }

-- what is done for the n threads from t on
unfoldable pub for_threads : (ℕ → Numbers → Numbers) → ℕ → ℕ → Numbers → Numbers
for_threads f zero t numbers = numbers
for_threads f (suc n) t numbers = for_threads f n (t + 1) (f t numbers)

-- Start of each execution

-- "without operation or last yield", "have no last access", "registers 0", "Released, SeqCst and schedule vectors are zero."
abbrev pub no_yield : ℕ → Numbers → Numbers
no_yield t numbers = with_number numbers (last_yield t) none

abbrev pub no_access : ℕ → Numbers → Numbers
no_access c numbers = with_number (with_number numbers (access_branch c) none) (non_load_branch c) none

-- the flags are as the settings say at every start [Q12]
unfoldable pub blank : Bool → State
blank explores = record {
  clocks = replicate vectors_held (zeros threads);
  marks = replicate cells (replicate history (unseens threads));
  values = replicate values_held 0;
  numbers = with_number (for_threads no_access cells 0 (for_threads no_yield threads 0 (replicate numbers_held 0))) exploring (cond explores 1 0);
}

-- "cells take a Release store of their start value": a cell's exclusive vector takes thread 0's, its stored vector none [Q26]
-- (atomic.rs: State::new)
abbrev pub cell_made : List ℕ → State → ℕ → State
cell_made table st c =
    store_done (with_clocks st (join_into st.clocks (mutated c) (causality 0))) 0 c (zeros threads) (start_value table c) 1

unfoldable pub cells_made : List ℕ → State → ℕ → ℕ → State
cells_made table st zero c = st
cells_made table st (suc n) c = cells_made table (cell_made table st c) n (c + 1)

-- "thread 0 makes them as writes after the atomic cells", "their starting values follow the atomic ones" (document 02, §5)
abbrev pub plain_made : List ℕ → State → ℕ → State
plain_made table st c = plain_write_done st 0 c (start_value table (cells_of table + c))

unfoldable pub plains_made : List ℕ → State → ℕ → ℕ → State
plains_made table st zero c = st
plains_made table st (suc n) c = plains_made table (plain_made table st c) n (c + 1)

-- "then thread 0 is (2,0,0,0,0), each other thread has 1 at place 0 and 1 at its own"
abbrev pub first_causality : ℕ → List ℕ
first_causality t = cond (eqb t 0) (set (zeros threads) 0 2) (set (set (zeros threads) 0 1) t 1)

-- "All are runnable"
abbrev pub thread_started : State → ℕ → State
thread_started st t =
    with_numbers (with_clocks st (with_vector st.clocks (causality t) (first_causality t)))
    (with_number st.numbers (State.state t) runnable)

unfoldable pub threads_started : State → ℕ → ℕ → State
threads_started st zero t = st
threads_started st (suc n) t = threads_started (thread_started st t) n (t + 1)

-- "Thread 0 is (1,0,0,0,0) while cells are made"
abbrev pub thread0_making : State → State
thread0_making st = with_clocks st (with_vector st.clocks (causality 0) (set (zeros threads) 0 1))

-- "Start of each execution: ..". "Thread 0 runs.", without a scheduling [Q7]: the number 0 stands for it
unfoldable pub start : Program → State
start p =
    threads_started
    (plains_made p.table (cells_made p.table (thread0_making (blank p.exploring)) (cells_of p.table) 0) (plains_of p.table) 0)
    (threads_of p.table) 0

-- Scheduling

-- the last dependent access: for a load that of the last store or RMW, else the last of any kind [Q23] (atomic.rs:
-- last_dependent_access)
abbrev pub dependent_branch : Numbers → ℕ → ℕ → ℕ
dependent_branch numbers op c = cond (eqb op aLoad) (number numbers (non_load_branch c)) (number numbers (access_branch c))

abbrev pub dependent_vector : Clocks → ℕ → ℕ → List ℕ
dependent_vector clocks op c = cond (eqb op aLoad) (vector clocks (last_non_load c)) (vector clocks (last_access c))

abbrev pub cell_of : State → ℕ → ℕ
cell_of st t = number st.numbers (operates_on t)

-- a thread's pending operation; one on a cell that is none, which no row sets, counts as none
abbrev pub operation_of : State → ℕ → ℕ
operation_of st t = cond (ltb (cell_of st t) cells) (number st.numbers (operation t)) no_operation

-- "(a) for each thread in order with a pending operation, if the cell's last dependent access has a vector not ≤ that thread's
-- schedule vector, `backtrack` from that access's branch for that thread": vectors that cannot be compared do, equal ones not [Q22]
unfoldable pub conflict : State → ℕ → Point
conflict st t =
    let op = operation_of st t in
    let at = dependent_branch st.numbers op (cell_of st t) in
    cond (eqb op no_operation || eqb at none || at_most (dependent_vector st.clocks op (cell_of st t)) (vector st.clocks (schedule_of t)))
    nowhere
    (branch at)

-- "the runnable thread with fewest yields, lowest number on a tie": the better of this one and the best so far
abbrev pub yields_less : Numbers → ℕ → Whom → Bool
yields_less numbers t nobody = true
yields_less numbers t (thread best) = ltb (number numbers (yields t)) (number numbers (yields best))

unfoldable pub fewest_from : Numbers → Whom → ℕ → ℕ → Whom
fewest_from numbers best zero t = best
fewest_from numbers best (suc n) t =
    fewest_from numbers (cond (is_in numbers runnable t && yields_less numbers t best) (thread t) best) n (t + 1)

-- "(b) initial is the current thread if runnable, else the runnable thread with fewest yields, lowest number on a tie": so a
-- thread that can go on is not preempted unless a mark asks for it. An active thread that is none counts as not runnable
unfoldable pub initial : Numbers → Whom
initial numbers =
    let now = number numbers active_thread in
    cond (ltb now threads && is_in numbers runnable now) (thread now) (fewest_from numbers nobody threads 0)

-- "(c) .. yielded Yield, not runnable or absent Disabled, others Skip"
unfoldable pub standing : Numbers → ℕ → Standing
standing numbers t =
    cond (is_in numbers yielded t) Event.yielded (cond (is_in numbers runnable t) Event.other Event.cannot_run)

-- the five threads
abbrev pub every_thread : List ℕ
every_thread = 0 ∷ 1 ∷ 2 ∷ 3 ∷ 4 ∷ []

-- whether a branch that is added now is an exploring one
abbrev pub exploring_now : Numbers → Bool
exploring_now numbers = eqb (number numbers exploring) 1

-- "Scheduling is called before opcodes 0, 1, 2, 3 act (pending operation set first), at yield, at a blocking join and at a
-- thread's end." Rule (a) looks at every thread by number, at every scheduling [Q22]
unfoldable pub schedules : State → List Entry → Move State
schedules st es =
    asks st es (exploring_now st.numbers)
    (which_thread (map (conflict st) every_thread) (initial st.numbers) (map (standing st.numbers) every_thread))

-- "record access with this branch and vector"; a load is no store or RMW
abbrev pub access_recorded : State → ℕ → ℕ → ℕ → List ℕ → State
access_recorded st op c at parts =
    let clocks = with_vector st.clocks (last_access c) parts in
    let numbers = with_number st.numbers (access_branch c) at in
    cond (eqb op aLoad)
    (with_numbers (with_clocks st clocks) numbers)
    (with_numbers (with_clocks st (with_vector clocks (last_non_load c) parts)) (with_number numbers (non_load_branch c) at))

-- "join the last dependent access's vector into its schedule vector, raise its own part"
abbrev pub schedule_grown : State → ℕ → List ℕ
schedule_grown st t =
    let op = operation_of st t in
    let own = vector st.clocks (schedule_of t) in
    raised
    (cond (eqb (dependent_branch st.numbers op (cell_of st t)) none) own (joined own (dependent_vector st.clocks op (cell_of st t))))
    t

-- "If the chosen thread has an operation, .."
unfoldable pub access_made : State → ℕ → ℕ → State
access_made st t at =
    let parts = schedule_grown st t in
    cond (eqb (operation_of st t) no_operation) st
    (access_recorded (with_clocks st (with_vector st.clocks (schedule_of t) parts)) (operation_of st t) (cell_of st t) at parts)

-- "(e)", by request §1: "every yielded thread other than the one just chosen becomes runnable; the chosen one stays yielded until a
-- later choice picks another thread": where a thread was chosen [Q24]
abbrev pub awake : ℕ → ℕ → Numbers → Numbers
awake chosen t numbers = cond (is_in numbers yielded t && not (eqb t chosen)) (with_number numbers (State.state t) runnable) numbers

unfoldable pub others_awake : ℕ → Numbers → Numbers
others_awake chosen numbers = for_threads (awake chosen) threads 0 numbers

-- the chosen thread runs
unfoldable pub switched : State → ℕ → ℕ → State
switched st t at =
    let made = access_made (with_numbers st (with_number st.numbers active_thread t)) t at in
    with_numbers made (others_awake t made.numbers)

-- "if every present thread has ended"
unfoldable pub all_over : Numbers → ℕ → ℕ → Bool
all_over numbers zero t = true
all_over numbers (suc n) t = (is_in numbers ended t || is_in numbers absent t) && all_over numbers n (t + 1)

-- only a thread that is runnable or has yielded can be chosen
abbrev pub can_run : Numbers → ℕ → Bool
can_run numbers t = ltb t threads && (is_in numbers runnable t || is_in numbers yielded t)

-- one of the n threads from t on can
unfoldable pub some_can_run : Numbers → ℕ → ℕ → Bool
some_can_run numbers zero t = false
some_can_run numbers (suc n) t = can_run numbers t || some_can_run numbers n (t + 1)

-- "(d) the branch chooses. None: if every present thread has ended, the execution ends, else 10." No branch chooses none where
-- a thread can run, nor a thread that cannot (docs/DECISIONS.md, 51)
unfoldable pub scheduled : State → Whom → ℕ → Move State
scheduled st nobody at =
    cond (all_over st.numbers threads 0) (ends st)
    (cond (some_can_run st.numbers threads 0) (stops st Event.impossible) (stops st Event.deadlock))
scheduled st (thread t) at = cond (can_run st.numbers t) (moves (switched st t at) []) (stops st Event.impossible)

-- Rows

-- the trace entry of a row with this opcode: "slot .. or 255", "value .., else 0" [Q18, Q19]
abbrev pub no_slot : ℕ
no_slot = 255

abbrev pub entry : ℕ → ℕ → ℕ → ℕ → ℕ → ℕ → List Entry
entry t k opcode slot mask v =
    record { thread = t; row = k; opcode = opcode; slot = slot; mask = mask; value = v } ∷ []

-- the row is complete, and this one is next
abbrev pub completed : State → ℕ → ℕ → State
completed st t k = with_numbers st (with_number (with_number st.numbers (next_row t) k) (phase t) to_begin)

-- a row without slot and value
abbrev pub done : State → ℕ → ℕ → ℕ → Move State
done st t k opcode = moves (completed st t (one_more k)) (entry t k opcode no_slot 0 0)

-- "Only opcodes 0 to 4 and a join that goes through raise the own version, by 1 before acting."
abbrev pub version_raised : State → ℕ → State
version_raised st t = with_clocks st (with_vector st.clocks (causality t) (raised (vector st.clocks (causality t)) t))

abbrev pub register : State → ℕ → ℕ → ℕ
register st t r = value st.values (of_register (register_at t r))

abbrev pub with_register : State → ℕ → ℕ → ℕ → State
with_register st t r v = with_values st (with_value st.values (of_register (register_at t r)) v)

-- "1 store a; 2 store register": race, then the store (atomic.rs: Atomic::store)
abbrev pub stores_unless : Race → State → State → ℕ → ℕ → ℕ → ℕ → ℕ → ℕ → Move State
stores_unless (race_of kind other) st tracked t k opcode c o v = stops st (Event.race kind other)
stores_unless no_race st tracked t k opcode c o v =
    moves (completed (store_done tracked t c (zeros threads) v o) t (one_more k))
    (entry t k opcode (slot_of (number st.numbers (count c))) 0 v)

unfoldable pub stores : State → ℕ → ℕ → ℕ → ℕ → ℕ → ℕ → Move State
stores st t k opcode c o v =
    let up = version_raised st t in
    stores_unless (store_race up.clocks t c) up (with_clocks up (store_tracked up.clocks t c)) t k opcode c o v

-- "Opcodes 0, 3, 5, 6 put the value read in the register, also on failure."; the trace has the value read, or of opcode 6 the
-- value left [Q18]
abbrev pub reads : AccessResult → ℕ → ℕ → ℕ → ℕ → ℕ → ℕ → Move State
reads (raced kind other st) t k opcode r slot mask = stops st (Event.race kind other)
reads (read v st) t k opcode r slot mask = moves (completed (with_register st t r v) t (one_more k)) (entry t k opcode slot mask v)

abbrev pub leaves_in : AccessResult → ℕ → ℕ → ℕ → ℕ → ℕ → Move State
leaves_in (raced kind other st) t k opcode c r = stops st (Event.race kind other)
leaves_in (read v st) t k opcode c r =
    moves (completed (with_register st t r v) t (one_more k))
    (entry t k opcode (newest (number st.numbers (count c))) 0 (value st.values (of_store (newest_of st.numbers c))))

-- "the trace gives the value read or written, slot 255" (document 02, §5)
abbrev pub writes_unless : Race → State → State → ℕ → ℕ → ℕ → ℕ → Move State
writes_unless (race_of kind other) st written t k opcode v = stops st (Event.race kind other)
writes_unless no_race st written t k opcode v = moves (completed written t (one_more k)) (entry t k opcode no_slot 0 v)

-- "4 fence"
abbrev pub fences : Program → State → ℕ → ℕ → State
fences p st t o =
    let up = version_raised st t in
    with_clocks up (fenced up.clocks up.marks up.numbers t (cells_of p.table) o)

-- "Yield: state yielded, last yield = own version, yields +1, pending operation none."
abbrev pub yield_done : State → ℕ → State
yield_done st t =
    let numbers = with_number st.numbers (State.state t) yielded in
    let numbers = with_number numbers (last_yield t) (version st.clocks t) in
    let numbers = with_number numbers (yields t) (one_more (number numbers (yields t))) in
    with_numbers st (with_number numbers (operation t) no_operation)

-- "Join: target ended, its causality and schedule vector are joined"
abbrev pub joined_with : State → ℕ → ℕ → State
joined_with st t target =
    let up = version_raised st t in
    with_clocks up (join_into (join_into up.clocks (causality t) (causality target)) (schedule_of t) (schedule_of target))

-- "else the thread blocks, with pending operation none, until the target's end makes it runnable"
abbrev pub blocked_on : State → ℕ → ℕ → State
blocked_on st t target =
    with_numbers st (with_number (with_number (with_number st.numbers (State.state t) blocked) (awaits t) target) (operation t) no_operation)

-- a join that goes through at once makes no scheduling [Q27]
unfoldable pub joins : State → ℕ → ℕ → ℕ → ℕ → Move State
joins st t k opcode target =
    cond (is_in st.numbers ended target) (done (joined_with st t target) t k opcode) (schedules (blocked_on st t target) [])

-- "9 jump; 10 jump if register = a; 11 jump if not": with its entry whether taken or not [Q19]
abbrev pub jumps : State → ℕ → ℕ → ℕ → Bool → ℕ → Move State
jumps st t k opcode taken target = moves (completed st t (cond taken target (one_more k))) (entry t k opcode no_slot 0 0)

-- "15 a check row fails"
abbrev pub checks : State → ℕ → ℕ → ℕ → Bool → Move State
checks st t k opcode holds = cond holds (done st t k opcode) (stops st Event.check)

abbrev pub is_skipping : Numbers → Bool
is_skipping numbers = eqb (number numbers skipping) 1

-- "13 `critical`; 14 `explore_state`": "16 not skipping, and `critical` when not exploring or `explore_state` when exploring".
-- When skipping they change nothing [Q12]
abbrev pub explores : State → ℕ → ℕ → ℕ → Bool → Move State
explores st t k opcode on =
    cond (is_skipping st.numbers) (done st t k opcode)
    (cond (eqb (number st.numbers exploring) (cond on 1 0)) (stops st Event.flags)
    (done (with_numbers st (with_number st.numbers exploring (cond on 1 0))) t k opcode))

-- "15 `skip_branch`" (path.rs: skip_branch)
abbrev pub skipped : State → State
skipped st = with_numbers st (with_number (with_number st.numbers exploring 0) skipping 1)

-- a load's or an RMW's question, with the version raised
abbrev pub asks_slot : State → Matched → Move State
asks_slot up m = asks up [] (exploring_now up.numbers) (which_slot m)

-- What each row does. "Load order: schedule; version; if new, match (13) then push (11); choose; race (14); coherence; touch;
-- sync.": the scheduling is that of `begins`; then `version_raised` and `matched_load` here, the push in the explorer's `pushed`, the
-- choice in its `reply`; and in `load_done`, with the slot, `load_race`, `coherent`, `touch_done`, `load_synced`
unfoldable pub acts_as : Program → State → ℕ → ℕ → ℕ → Op → Move State
acts_as p st t k n (Table.load c o r) =
    let up = version_raised st t in
    asks_slot up (matched_load up.clocks (marks_of up.marks c) up.numbers t c o)
acts_as p st t k n (Table.store c o a) = stores st t k n c o a
acts_as p st t k n (Table.store_register c o r) = stores st t k n c o (register st t r)
acts_as p st t k n (Table.rmw c o f change r) =
    let up = version_raised st t in
    asks_slot up (matched_rmw up.clocks up.numbers c)
acts_as p st t k n (Table.fence o) = done (fences p st t o) t k n
acts_as p st t k n (Table.unsync_load c r) =
    reads (unsync_load_done st t c) t k n r (newest (number st.numbers (count c))) 0
acts_as p st t k n (Table.with_mut c change r) = leaves_in (mut_done st t c change) t k n c r
acts_as p st t k n Table.yield = schedules (completed (yield_done st t) t (one_more k)) (entry t k n no_slot 0 0)
acts_as p st t k n (Table.join target) = joins st t k n target
acts_as p st t k n (Table.jump target) = jumps st t k n true target
acts_as p st t k n (Table.jump_if r a target) = jumps st t k n (eqb (register st t r) a) target
acts_as p st t k n (Table.jump_unless r a target) = jumps st t k n (not (eqb (register st t r) a)) target
acts_as p st t k n (Table.check r a) = checks st t k n (eqb (register st t r) a)
acts_as p st t k n Table.critical = explores st t k n false
acts_as p st t k n Table.explore_state = explores st t k n true
acts_as p st t k n Table.skip_branch = done (skipped st) t k n
acts_as p st t k n (Table.spurious r) = asks st [] (exploring_now st.numbers) which_bit
acts_as p st t k n (Table.plain_read c r) = reads (plain_read_done st t c) t k n r no_slot 0
acts_as p st t k n (Table.plain_write c a) = writes_unless (plain_write_race st.clocks t c) st (plain_write_done st t c a) t k n a

abbrev pub acts : Program → State → ℕ → ℕ → Op → Move State
acts p st t k op = acts_as p st t k (opcode_of op) op

-- A row begins

-- What a row is to the path. "Scheduling is called before opcodes 0, 1, 2, 3 act (pending operation set first)", and of these a load
-- and an RMW then ask for a slot; "16 `branch_spurious`" asks for a bit. Every other row sets no operation, and neither a slot nor
-- a bit is for it: of plain ones "Neither schedules nor raises the version." (document 02, §5)
pub data Role : Type 0 where
  loads : (cell order register : ℕ) → Role
  stores_operand : (cell order a : ℕ) → Role
  stores_register : (cell order register : ℕ) → Role
  modifies : (cell order failure : ℕ) (change : Change) (register : ℕ) → Role
  takes_bit : (register : ℕ) → Role
  otherwise : Role

abbrev pub role_of : Op → Role
role_of (Table.load c o r) = loads c o r
role_of (Table.store c o a) = stores_operand c o a
role_of (Table.store_register c o r) = stores_register c o r
role_of (Table.rmw c o f change r) = modifies c o f change r
role_of (Table.fence o) = otherwise
role_of (Table.unsync_load c r) = otherwise
role_of (Table.with_mut c change r) = otherwise
role_of Table.yield = otherwise
role_of (Table.join target) = otherwise
role_of (Table.jump target) = otherwise
role_of (Table.jump_if r a target) = otherwise
role_of (Table.jump_unless r a target) = otherwise
role_of (Table.check r a) = otherwise
role_of Table.critical = otherwise
role_of Table.explore_state = otherwise
role_of Table.skip_branch = otherwise
role_of (Table.spurious r) = takes_bit r
role_of (Table.plain_read c r) = otherwise
role_of (Table.plain_write c a) = otherwise

-- a row that is refused is nothing to it
abbrev pub role_in : Decoded Op → Role
role_in refused = otherwise
role_in (decoded op) = role_of op

-- the pending operation of a row of opcodes 0 to 3, and its cell; other rows have none
pub data Pending : Type 0 where
  nothing : Pending
  pends : (operation cell : ℕ) → Pending

abbrev pub pending_as : Role → Pending
pending_as (loads c o r) = pends aLoad c
pending_as (stores_operand c o a) = pends aStore c
pending_as (stores_register c o r) = pends aStore c
pending_as (modifies c o f change r) = pends an_rmw c
pending_as (takes_bit r) = nothing
pending_as otherwise = nothing

abbrev pub pending_of : Op → Pending
pending_of op = pending_as (role_of op)

-- "rows begun is a counted number"
abbrev pub row_begun : State → ℕ → State
row_begun st t =
    let numbers = with_number st.numbers rows_begun (one_more (number st.numbers rows_begun)) in
    let numbers = with_number numbers (rows_of t) (one_more (number numbers (rows_of t))) in
    with_numbers st (with_number numbers (phase t) to_act)

-- "pending operation set first"
abbrev pub with_operation : State → ℕ → ℕ → ℕ → State
with_operation st t op c = with_numbers st (with_number (with_number st.numbers (operation t) op) (operates_on t) c)

-- "Scheduling is called before opcodes 0, 1, 2, 3 act"; any other row, which sets no operation, acts at once
abbrev pub begun_as : Program → State → ℕ → ℕ → Op → Pending → Move State
begun_as p st t k op nothing = acts p st t k op
begun_as p st t k op (pends action c) = schedules (with_operation st t action c) []

-- "12 a row is to begin with L begun" [Q1], and is then counted nowhere [Q2]
unfoldable pub begins : Program → State → ℕ → ℕ → Op → Move State
begins p st t k op =
    cond (leb p.operations (number st.numbers rows_begun)) (stops st Event.rows)
    (begun_as p (row_begun st t) t k op (pending_of op))

-- "Past its last row a thread ends, its pending operation none; only then are other threads' joins on it free.": "until the
-- target's end makes it runnable (before that end's scheduling)"
abbrev pub freed : ℕ → ℕ → Numbers → Numbers
freed target t numbers =
    cond (is_in numbers blocked t && eqb (number numbers (awaits t)) target) (with_number numbers (State.state t) runnable) numbers

unfoldable pub thread_ended : State → ℕ → State
thread_ended st t =
    with_numbers st
    (for_threads (freed t) threads 0 (with_number (with_number st.numbers (State.state t) ended) (operation t) no_operation))

-- What the active thread does next

abbrev pub current : State → ℕ
current st = number st.numbers active_thread

-- the row that the active thread is at
abbrev pub active_row : State → ℕ
active_row st = number st.numbers (next_row (current st))

abbrev pub is_to_begin : State → ℕ → Bool
is_to_begin st t = eqb (number st.numbers (phase t)) to_begin

-- it begins its row or, where that has begun, acts. No row of an accepted table is refused
abbrev pub of_row : Program → State → ℕ → ℕ → Decoded Op → Move State
of_row p st t k refused = stops st Event.impossible
of_row p st t k (decoded op) = cond (is_to_begin st t) (begins p st t k op) (acts p st t k op)

-- past its last row it ends [Q3], at once unless that row is a yield [Q27]
unfoldable pub next_at : Program → State → ℕ → ℕ → Move State
next_at p st t k =
    cond (is_to_begin st t && leb (row_count p t) k) (schedules (thread_ended st t) []) (of_row p st t k (row_of p t k))

unfoldable pub next : Program → State → Event.Event State
next p st =
    cond (ltb (current st) threads)
    (record { site = record { thread = current st; row = active_row st }; move = next_at p st (current st) (active_row st) })
    (record { site = no_site; move = stops st Event.impossible })

-- How it goes on with an answer

-- "offer mask (bit i for slot i; ..)": of all that the branch offers, also in a replay [Q19]
unfoldable pub mask_of : ℕ → List ℕ → ℕ
mask_of mask [] = mask
mask_of mask (i ∷ slots) = mask_of (bit_or mask (2 ^ i)) slots

-- a slot that is live can be read; no branch chooses another (docs/DECISIONS.md, 51)
abbrev pub if_live : State → ℕ → ℕ → Move State → Move State
if_live st c slot m = cond (ltb slot (number st.numbers (count c))) m (stops st Event.impossible)

-- a load or an RMW goes on with a slot; no other row is given one
unfoldable pub read_from : State → ℕ → ℕ → ℕ → ℕ → Role → Move State
read_from st t k slot mask (loads c o r) = if_live st c slot (reads (load_done st t c slot o) t k 0 r slot mask)
read_from st t k slot mask (modifies c o f change r) = if_live st c slot (reads (rmw_done st t c slot change o f) t k 3 r slot mask)
read_from st t k slot mask (stores_operand c o a) = stops st Event.impossible
read_from st t k slot mask (stores_register c o r) = stops st Event.impossible
read_from st t k slot mask (takes_bit r) = stops st Event.impossible
read_from st t k slot mask otherwise = stops st Event.impossible

-- "16 `branch_spurious` into register (0 or 1)"; no other row is given a bit
unfoldable pub bit_taken : State → ℕ → ℕ → ℕ → Role → Move State
bit_taken st t k v (takes_bit r) = moves (completed (with_register st t r v) t (one_more k)) (entry t k 16 no_slot 0 v)
bit_taken st t k v (loads c o r) = stops st Event.impossible
bit_taken st t k v (stores_operand c o a) = stops st Event.impossible
bit_taken st t k v (stores_register c o r) = stops st Event.impossible
bit_taken st t k v (modifies c o f change r) = stops st Event.impossible
bit_taken st t k v otherwise = stops st Event.impossible

-- what the active thread's row does, and what it is to the path
abbrev pub active_op : Program → State → Decoded Op
active_op p st = row_of p (current st) (active_row st)

abbrev pub active_role : Program → State → Role
active_role p st = role_in (active_op p st)

unfoldable pub answered : Program → State → Pick → Move State
answered p st (run_thread whom at) = scheduled st whom at
answered p st (read_slot slot offered) = read_from st (current st) (active_row st) slot (mask_of 0 offered) (active_role p st)
answered p st (take_bit bit) = bit_taken st (current st) (active_row st) (cond bit 1 0) (active_role p st)

-- "The condition is judged when all threads have ended": by their registers there
unfoldable pub final : Program → State → Bool
final p st = holds (threads_of p.table) (register st) p.condition

-- The machine of a program
abbrev pub machine : Program → Machine
machine p = record { State = State; start = start p; next = next p; answered = answered p; final = final p }
