-- What a fault, an answer and an event of the code stand for in the definition, for every case. Assumes nothing.
--     site_of        a thread at its row
--     HereWithin    the thread is one of the five, and its row names only what there is
--     fault_of       a fault
--     matched_for    what a row that asks for a slot is offered
--     entry_if       the entry of a row that asks, if it is complete
--     Happening     what a tick answers
--     move_of        what it answers, with the state that it leaves
use Rattle.std.specs.Prelude.{ℕ, ◌<◌, List, [], Bool, true, false, Result, Ok, Err}
use Rattle.rules.specs.Event as rules
use Rattle.rules.specs.Event.{Entry, Matched, Move}
use Rattle.rules.specs.State.{State, marks_of}
use Rattle.rules.specs.Cell.{matched_load, matched_rmw}
use Rattle.rules.specs.Machine.{Role, loads, stores_operand, stores_register, modifies, takes_bit, otherwise, role_in, schedules, entry, no_slot, exploring_now}
use Rattle.rules.specs.Table.{Op, Decoded}
use Rattle.decode.specs.Ops.{OpWithin}
use Rattle.event.specs.declared.Fault.{Fault}
use Rattle.event.specs.declared.Fault.TheVariants as fault
use Rattle.event.specs.declared.Here.{Here}
use Rattle.event.specs.declared.Site.{Site}
use Rattle.event.specs.declared.Question.{Question}
use Rattle.event.specs.declared.Question.TheVariants as question
use Rattle.event.specs.declared.Moved.{Moved}
use Rattle.event.specs.declared.Moved.TheVariants as event

abbrev pub site_of : Site → rules.Site
site_of s = record { thread = s.thread; row = s.row }

pub record HereWithin (h : Here) : Type 0 where
  pub who : h.site.thread < 5
  pub names : OpWithin h.row

abbrev pub fault_of : Fault → rules.Fault
fault_of fault.Deadlock = rules.deadlock
fault_of fault.Full = rules.full
fault_of fault.Rows = rules.rows
fault_of fault.EqualOrders = rules.equal_orders
fault_of (fault.Race kind other) = rules.race kind other
fault_of fault.Check = rules.check
fault_of fault.Flags = rules.flags
fault_of fault.Preemptions = rules.preemptions
fault_of fault.Impossible = rules.impossible

-- what a load or an RMW of a thread is offered; every other row is offered nothing
abbrev pub offered_as : State → ℕ → Role → Matched
offered_as st t (loads c o r) = matched_load st.clocks (marks_of st.marks c) st.numbers t c o
offered_as st t (modifies c o f change r) = matched_rmw st.clocks st.numbers c
offered_as st t (stores_operand c o a) = rules.offers []
offered_as st t (stores_register c o r) = rules.offers []
offered_as st t (takes_bit r) = rules.offers []
offered_as st t otherwise = rules.offers []

abbrev pub matched_for : State → ℕ → Decoded Op → Matched
matched_for st t row = offered_as st t (role_in row)

-- the entry of a row that is complete before it asks, which a yield alone is
abbrev pub entry_if : Bool → ℕ → ℕ → ℕ → List Entry
entry_if true t k opcode = entry t k opcode no_slot 0 0
entry_if false t k opcode = []

abbrev pub asked_by : Question → List Entry → Matched → State → Move State
asked_by question.Thread es m st = schedules st es
asked_by question.Slot es m st = rules.asks st es (exploring_now st.numbers) (rules.which_slot m)
asked_by question.Bit es m st = rules.asks st es (exploring_now st.numbers) rules.which_bit

-- what a tick answers: how it comes out, or the fault that stops it
abbrev pub Happening : Type 0
Happening = Result Moved Fault

-- of a thread at a row with this opcode, which is offered this where it asks for a slot; the state is the one left
abbrev pub move_of : Happening → ℕ → ℕ → ℕ → Matched → State → Move State
move_of (Ok event.Moves) t k opcode m st = rules.moves st []
move_of (Ok (event.Done slot mask value)) t k opcode m st = rules.moves st (entry t k opcode slot mask value)
move_of (Ok (event.Asks q yielded)) t k opcode m st = asked_by q (entry_if yielded t k opcode) m st
move_of (Ok event.Ends) t k opcode m st = rules.ends st
move_of (Err f) t k opcode m st = rules.stops st (fault_of f)
