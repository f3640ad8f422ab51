-- What stands at every tick of an execution of an accepted table: threads, their rows, the cells' counts, the rows begun and the
-- entries of the trace; and what stands where the machine asks. It is what a machine keeps (crate kept), so it speaks of every
-- state that a run comes to: between ticks, where it asks, where it stops and where it ends. Assumes nothing.
--     Thread              one thread's state, row and phase, and whom it waits for
--     FactsLeft           the numbers of a state, with so many entries in the trace
--     FactsHold           and between ticks, where the active thread runs
--     FactsAsked          and of a state that asks, its question
--     Schedules, FactsRead, Takes  for a thread, for a slot, for a bit; MatchOfRow: what a slot is chosen from
--     SomeOffered         where orders are not equal, some store is offered
use Rattle.std.specs.Prelude.{ℕ, ◌+◌, ◌≤◌, ◌<◌, List, map, Bool, ◌≡◌, ◌≢◌, length}
use Rattle.rules.specs.Vector.{Whom}
use Rattle.rules.specs.Change.{Change}
use Rattle.rules.specs.Table as Table
use Rattle.rules.specs.Table.{decoded, threads_of, cells_of}
use Rattle.rules.specs.Event.{Standing, Matched, offers, slots_of, Question, which_thread, which_slot, which_bit}
use Rattle.rules.specs.State as State
use Rattle.rules.specs.State.{State, Clocks, Numbers, number, marks_of, threads, next_row, rows_of, phase, awaits, count, rows_begun}
use Rattle.rules.specs.Cell.{matched_load, matched_rmw}
use Rattle.rules.specs.Machine as Machine
use Rattle.rules.specs.Machine.{Program, row_count, row_of, absent, runnable, blocked, yielded, ended, to_begin, to_act, current, active_op, every_thread}
use Rattle.rules.specs.Measure.{Whole, CanAct}

-- Wherever a run comes to

-- a thread that stands so, at row k, which is in this phase; and the thread that it waits for, where it is blocked
pub record Thread (p : Program) (t stands k ph target : ℕ) : Type 0 where
  -- a thread of the table is there, in one of the states 1 to 4; past the table's threads it is absent
  pub present : t < threads_of p.table → (runnable ≤ stands) × (stands ≤ ended)
  pub missing : threads_of p.table ≤ t → stands ≡ absent
  -- a row is to begin or to act
  pub phased : ph ≤ to_act
  -- it is one of the thread's rows, or past the last
  pub row : k ≤ row_count p t
  -- what is to act is a row
  pub acts : ph ≡ to_act → k < row_count p t
  -- "Past its last row a thread ends"
  pub over : stands ≡ ended → (ph ≡ to_begin) × (k ≡ row_count p t)
  -- "Join: .. the thread blocks": a row that has begun, and it names a thread
  pub waits : stands ≡ blocked → (ph ≡ to_act) × (row_of p t k ≡ decoded (Table.join target)) × (target < threads_of p.table)

-- so each thread stands by the numbers
abbrev pub ThreadIn : Program → Numbers → ℕ → Type 0
ThreadIn p a t = Thread p t (number a (State.state t)) (number a (next_row t)) (number a (phase t)) (number a (awaits t))

-- the rows that have begun and are to act
abbrev pub under_way : Numbers → ℕ
under_way a = number a (phase 0) + number a (phase 1) + number a (phase 2) + number a (phase 3) + number a (phase 4)

-- the rows begun, thread by thread
abbrev pub begun_by : Numbers → ℕ
begun_by a = number a (rows_of 0) + number a (rows_of 1) + number a (rows_of 2) + number a (rows_of 3) + number a (rows_of 4)

-- a state, with n entries in the trace
pub record FactsLeft (p : Program) (st : State) (n : ℕ) : Type 0 where
  -- the numbers are all there, and every pending operation is on a cell
  pub whole : Whole st.numbers
  -- the active thread is one of the table's
  pub runs : current st < threads_of p.table
  pub each : (t : ℕ) → t < threads → ThreadIn p st.numbers t
  -- "until the target's end makes it runnable": no thread is blocked on one that has ended
  pub blocks : (t : ℕ) → t < threads → number st.numbers (State.state t) ≡ blocked →
      number st.numbers (State.state (number st.numbers (awaits t))) ≢ ended
  -- "every yielded thread other than the one just chosen becomes runnable": none but the active one has yielded
  pub awake : (t : ℕ) → t < threads → t ≢ current st → number st.numbers (State.state t) ≢ yielded
  -- "cells take a Release store of their start value": every cell has a store
  pub counted : (c : ℕ) → c < cells_of p.table → 1 ≤ number st.numbers (count c)
  -- a row that has begun is to act, or has its entry
  pub entries : n + under_way st.numbers ≡ number st.numbers rows_begun
  -- "rows begun is a counted number .., equal to the definition's begun rows, never above L"
  pub shared : begun_by st.numbers ≡ number st.numbers rows_begun
  pub limited : number st.numbers rows_begun ≤ p.operations

-- between ticks the active thread is one that can act: runnable, or yielded and chosen nevertheless; where a scheduling is asked for,
-- and where an execution has stopped or ended, it may be blocked or have ended
pub record FactsHold (p : Program) (st : State) (n : ℕ) : Type 0 where
  pub over : FactsLeft p st n
  pub ready : CanAct (number st.numbers (State.state (current st)))

-- Where it asks

-- for a scheduling
pub record Schedules (p : Program) (st : State) (n : ℕ) (first : Whom) (standings : List Standing) : Type 0 where
  pub over : FactsLeft p st n
  pub is_first : first ≡ Machine.initial st.numbers
  pub stand : standings ≡ map (Machine.standing st.numbers) every_thread

-- the active thread's row is a load or an RMW, and what is asked is the match of that cell in this very state
pub data MatchOfRow (p : Program) (st : State) (m : Matched) : Type 0 where
  of_load : (c o r : ℕ) → active_op p st ≡ decoded (Table.load c o r) →
      m ≡ matched_load st.clocks (marks_of st.marks c) st.numbers (current st) c o → MatchOfRow p st m
  of_rmw : (c o f : ℕ) (change : Change) (r : ℕ) → active_op p st ≡ decoded (Table.rmw c o f change r) →
      m ≡ matched_rmw st.clocks st.numbers c → MatchOfRow p st m

-- for a slot
pub record FactsRead (p : Program) (st : State) (n : ℕ) (m : Matched) : Type 0 where
  pub holds : FactsHold p st n
  pub to_act : number st.numbers (phase (current st)) ≡ to_act
  pub reading : MatchOfRow p st m

-- for a bit
pub record Takes (p : Program) (st : State) (n : ℕ) : Type 0 where
  pub holds : FactsHold p st n
  pub to_act : number st.numbers (phase (current st)) ≡ to_act
  pub register : ℕ
  pub is_spurious : active_op p st ≡ decoded (Table.spurious register)

abbrev pub FactsAsked : Program → State → ℕ → Question → Type 0
FactsAsked p st n (which_thread points first standings) = Schedules p st n first standings
FactsAsked p st n (which_slot m) = FactsRead p st n m
FactsAsked p st n which_bit = Takes p st n

-- What is taken from the match: a cell that has a store offers one, where no equal orders are met

pub record SomeOffered : Type 0 where
  pub to_load : (clocks : Clocks) (rows : List (List ℕ)) (numbers : Numbers) (t c o : ℕ) (offered : List Bool) → 1 ≤ number numbers (count c)
      → matched_load clocks rows numbers t c o ≡ offers offered → 0 < length (slots_of offered)
  pub to_rmw : (clocks : Clocks) (numbers : Numbers) (c : ℕ) (offered : List Bool) → 1 ≤ number numbers (count c)
      → matched_rmw clocks numbers c ≡ offers offered → 0 < length (slots_of offered)
