-- Demand 3, what a load or an RMW is offered in a run: the record that answers has the offers of that very state, the slot is one
-- of them, and so are the trace's slot and mask. Assumes nothing.
--     OfferOfRow       a row that reads a slot, with what it is offered
--     Noted            the trace entry of such a row, or none where it faults
--     SlotChosen       a tick at which a slot is chosen
--     OfferingTick     and that no other tick notes a load or an RMW
--     Offers           the statement: every such tick of every execution of every run, of any table
use Rattle.std.specs.Prelude.{ℕ, ◌<◌, List, [], ◌++◌, Bool, true, ◌≡◌, length, get_or}
use Rattle.rules.specs.Path.{Load, load, no_branch}
use Rattle.rules.specs.Change.{Change}
use Rattle.rules.specs.Table as Table
use Rattle.rules.specs.Table.{decoded}
use Rattle.rules.specs.Event.{Entry, Matched, offers, slots_of, which_slot, asks}
use Rattle.rules.specs.State.{State, marks_of, value, of_store, store_at}
use Rattle.rules.specs.Cell.{seen_by, matched_load, matched_rmw}
use Rattle.rules.specs.Machine.{Program, machine, next, current, active_row, active_op, version_raised, mask_of, entry}
use Rattle.rules.specs.Explorer.{Limits, Walk, Tick, goes, over, faulted, tick}
use Rattle.ledger.specs.History.{Every, Course, courses, left_by}
use Rattle.offers.specs.Offered.{OfferedRight}

-- the active thread's row is a load or an RMW of cell c, with its opcode; what it is offered is judged in this state, by this
-- thread, and is right
pub data OfferOfRow (p : Program) (s : State) (m : Matched) (offered : List Bool) : (c opcode : ℕ) → Type 0 where
  of_load : {c o r : ℕ} → active_op p s ≡ decoded (Table.load c o r)
      → m ≡ matched_load s.clocks (marks_of s.marks c) s.numbers (current s) c o
      → OfferedRight s.clocks s.numbers c (λ j. seen_by s.clocks (marks_of s.marks c) (current s) j ≡ true) offered
      → OfferOfRow p s m offered c 0
  of_rmw : {c o f r : ℕ} {change : Change} → active_op p s ≡ decoded (Table.rmw c o f change r)
      → m ≡ matched_rmw s.clocks s.numbers c
      → OfferedRight s.clocks s.numbers c (λ j. Unit {0}) offered
      → OfferOfRow p s m offered c 3

-- with the entry at the end of the trace, or none: "A faulting row has no entry"
abbrev pub Noted : List Entry → List Entry → Tick State → Type 0
Noted before it (goes v) = v.trace ≡ before ++ it
Noted before it (over v) = ⊥
Noted before it (faulted f site v) = v.trace ≡ before

-- an entry that is neither a load's nor an RMW's
abbrev pub NoRead : Entry → Type 0
NoRead e = (e.opcode ≡ 0 → ⊥) × (e.opcode ≡ 3 → ⊥)

module _ (p : Program) (limits : Limits) where
  -- the walk that a tick leaves
  abbrev pub tick_left : Walk State → Walk State
  tick_left w = left_by (tick (machine p) limits w)

  -- a tick at which the machine asks in this state, with these entries, for one of these offers; exploring or not
  abbrev pub AsksSlot : Walk State → State → List Entry → Bool → Matched → Type 0
  AsksSlot w s es x m = (next p w.state).move ≡ asks s es x (which_slot m)

  -- A tick at which the machine asks in this state for one of these offers, and is answered
  pub record SlotChosen (w : Walk State) (s : State) (es : List Entry) (m : Matched) : Type 0 where
    -- the state is that of the tick, with the thread's version raised; no row is complete yet
    pub raised : s ≡ version_raised w.state (current w.state)
    pub bare : es ≡ []
    -- the record that answers, whether it was added now or known before, has just the slots that are offered now
    pub by : Load
    pub at-branch : get_or (tick_left w).ledger.path w.pos no_branch ≡ load by
    pub offered : List Bool
    pub is : m ≡ offers offered
    pub all : by.values ≡ slots_of offered
    -- its position is that of one of them: the slot that is read
    pub within : by.pos < length by.values
    -- they are judged in this state, and are right
    pub cell : ℕ
    pub opcode : ℕ
    pub reading : OfferOfRow p s m offered cell opcode
    -- the entry names the slot, all that were offered, and the value that stands there
    pub noted :
        Noted w.trace
        (entry (current s) (active_row s) opcode (get_or by.values by.pos 0) (mask_of 0 by.values)
        (value s.values (of_store (store_at cell (get_or by.values by.pos 0)))))
        (tick (machine p) limits w)

  -- a tick that asks for a slot: it passes a branch if it goes on at all, and wherever it does a slot is chosen
  pub record Unrefused (w : Walk State) (s : State) (es : List Entry) (m : Matched) : Type 0 where
    pub passes : (v : Walk State) → tick (machine p) limits w ≡ goes v → w.pos < v.pos
    pub chosen : w.pos < (tick_left w).pos → SlotChosen w s es m

  pub record OfferingTick (w : Walk State) : Type 0 where
    pub at_slot : (s : State) (es : List Entry) (x : Bool) (m : Matched) → AsksSlot w s es x m → Unrefused w s es m
    -- a tick that asks for none notes no load and no RMW
    pub no_other :
        (v : Walk State) → tick (machine p) limits w ≡ goes v
        → ((s : State) (es : List Entry) (x : Bool) (m : Matched) → AsksSlot w s es x m → ⊥)
        → (new : List Entry) × (v.trace ≡ w.trace ++ new) × Every NoRead new

  abbrev pub OfferingCourse : Course State → Type 0
  OfferingCourse c = Every OfferingTick c.ticks

-- "Every unrefused load and RMW is offered, judged as its slot is chosen, each live store recorded below no other, and never one
-- recorded below another live store that its thread has seen by then."
unfoldable pub Offers : Type 0
Offers = (p : Program) (limits : Limits) (n : ℕ) → Every (OfferingCourse p limits) (courses (machine p) limits n)
