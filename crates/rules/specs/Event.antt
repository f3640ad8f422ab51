-- What a machine is to the explorer: where it starts, what it does next, how it goes on with an answer, and what is claimed of
-- its end. A machine never reads the path: it asks, and is answered. The explorer and all that is said of its ledger are over any
-- machine.
use Rattle.std.specs.Prelude.{ℕ, zero, suc, ◌+◌, ◌/◌, ◌%◌, List, [], ◌∷◌, Bool, cond}
use Rattle.rules.specs.Vector.{Whom}

-- "In a run the first fault stops everything"
pub data Fault : Type 0 where
  -- "10 deadlock"
  deadlock : Fault
  -- "11 a branch is to be added with B present"
  full : Fault
  -- "12 a row is to begin with L begun"
  rows : Fault
  -- "13 equal orders met in a scan"
  equal_orders : Fault
  -- "14 race: kind and other thread"
  race : ℕ → ℕ → Fault
  -- "15 a check row fails"
  check : Fault
  -- "16 not skipping, and `critical` when not exploring or `explore_state` when exploring"
  flags : Fault
  -- "17 a new schedule branch's preemptions would pass 255"
  preemptions : Fault
  -- what no run of an accepted table meets: the cases of docs/DECISIONS.md, 51 (37)
  impossible : Fault

-- the fault's number; 20 is none of document 01's
abbrev pub fault_number : Fault → ℕ
fault_number deadlock = 10
fault_number full = 11
fault_number rows = 12
fault_number equal_orders = 13
fault_number (race kind other) = 14
fault_number check = 15
fault_number flags = 16
fault_number preemptions = 17
fault_number impossible = 20

-- "race kind (else 0), other thread (else 255)"
abbrev pub race_kind : Fault → ℕ
race_kind deadlock = 0
race_kind full = 0
race_kind rows = 0
race_kind equal_orders = 0
race_kind (race kind other) = kind
race_kind check = 0
race_kind flags = 0
race_kind preemptions = 0
race_kind impossible = 0

abbrev pub other_thread : Fault → ℕ
other_thread deadlock = 255
other_thread full = 255
other_thread rows = 255
other_thread equal_orders = 255
other_thread (race kind other) = other
other_thread check = 255
other_thread flags = 255
other_thread preemptions = 255
other_thread impossible = 255

-- "Trace entry .. : thread, row, opcode, slot .. or 255, offer mask .., u64 value"
pub record Entry : Type 0 where
  pub thread : ℕ
  pub row : ℕ
  pub opcode : ℕ
  pub slot : ℕ
  pub mask : ℕ
  pub value : ℕ

-- "Little-endian": the lowest n bytes of a number
unfoldable pub little : ℕ → ℕ → List ℕ
little zero v = []
little (suc n) v = v % 256 ∷ little n (v / 256)

-- "thread, row, opcode, slot .., offer mask .., three zeros, u64 value": a byte each, and eight. Thread and row are numbers of
-- the state, u16 in the code, of which the lower byte is taken; opcode, slot and mask are bytes by what makes them: an Op's
-- number, a slot below seven (of a record too, by Explorer's slot_said) or 255, and a bit for each of seven slots
unfoldable pub entry_bytes : Entry → List ℕ
entry_bytes e = e.thread % 256 ∷ e.row % 256 ∷ e.opcode ∷ e.slot ∷ e.mask ∷ 0 ∷ 0 ∷ 0 ∷ little 8 e.value

-- what the scan of a cell's stores comes to: for each slot whether it is offered, or that equal orders were met
pub data Matched : Type 0 where
  offers : List Bool → Matched
  equal : Matched

-- the slots that are offered, from slot i on: "Offers rise strictly."
unfoldable pub slots_from : ℕ → List Bool → List ℕ
slots_from i [] = []
slots_from i (offered ∷ more) = cond offered (i ∷ slots_from (i + 1) more) (slots_from (i + 1) more)

abbrev pub slots_of : List Bool → List ℕ
slots_of = slots_from 0

-- how a thread that is not the initial one stands to a scheduling: "yielded", "not runnable or absent", "others"
pub data Standing : Type 0 where
  yielded : Standing
  cannot_run : Standing
  other : Standing

-- a branch's position among all branches of the path [Q21], or none
pub data Point : Type 0 where
  nowhere : Point
  branch : ℕ → Point

-- A scheduling, which says by thread from which branch to backtrack for it, then the initial thread and how each stands; a
-- load's or an RMW's choice of a store; `branch_spurious`
pub data Question : Type 0 where
  which_thread : List Point → Whom → List Standing → Question
  which_slot : Matched → Question
  which_bit : Question

-- The thread that a branch chooses and the branch's position; the slot, and all that were offered; the bit
pub data Pick : Type 0 where
  run_thread : Whom → ℕ → Pick
  read_slot : ℕ → List ℕ → Pick
  take_bit : Bool → Pick

-- What a machine does next, with the trace entries of the rows that are now complete
pub data Move (S : Type 0) : Type 0 where
  -- goes on
  moves : S → List Entry → Move S
  -- asks, and says whether it is exploring
  asks : S → List Entry → Bool → Question → Move S
  -- meets a fault
  stops : S → Fault → Move S
  -- its execution has ended
  ends : S → Move S

-- "thread and row at fault (from 11 on the current thread and its row, the row count if it is ending ..)": where it does so
pub record Site : Type 0 where
  pub thread : ℕ
  pub row : ℕ

-- "255, 255": no thread and no row
abbrev pub no_site : Site
no_site = record { thread = 255; row = 255 }

pub record Event (S : Type 0) : Type 0 where
  pub site : Site
  pub move : Move S

pub record Machine : Type 1 where
  pub State : Type 0
  pub start : State
  pub next : State → Event State
  pub answered : State → Pick → Move State
  -- whether the final condition holds in a state in which an execution has ended: the explorer judges it, never `next`
  pub final : State → Bool
