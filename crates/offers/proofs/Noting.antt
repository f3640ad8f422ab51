-- Which ticks note a load or an RMW: only those that ask for a slot. Assumes nothing.
--     EntriesOf, next-entries        what the machine notes as it does the next thing
--     answer-entries                 and as it goes on with a thread or a bit
--     no_other                       a tick that asks for no slot
use Prim.Native.Nat.{ℕ}
use mathlib.Core.List.{List, [], ◌++◌, append_assoc}
use mathlib.Core.Bool.{Bool, true, false, cond, ◌&&◌}
use mathlib.Core.Path.{◌≡◌, refl, ap, sym, ◌∙◌}
use native.Mathlib.Omega.{arith}
use lib.Dec.{eqb, ltb, leb}
use Rattle.rules.specs.Vector.{Whom, nobody, thread, one_more}
use Rattle.rules.specs.Table as Table
use Rattle.rules.specs.Table.{Op, Decoded, refused, decoded}
use Rattle.rules.specs.Event as Event
use Rattle.rules.specs.Event.{Entry, Matched, Question, which_thread, which_slot, which_bit, Pick, Move, moves, asks, stops, ends}
use Rattle.rules.specs.State.{State, number, threads, rows_begun, count, exploring}
use Rattle.rules.specs.Cell
use Rattle.rules.specs.Cell.{AccessResult, raced, read, Race, no_race, race_of, with_clocks}
use Rattle.rules.specs.Plain.{plain_read_done, plain_write_race, plain_write_done}
use Rattle.rules.specs.Machine
use Rattle.rules.specs.Machine.{Program, Role, loads, stores_operand, stores_register, modifies, takes_bit, otherwise, Pending, nothing, pends, pending_of, machine, current, active_row, active_role, row_of, row_count, version_raised, entry, no_slot}
use Rattle.rules.specs.Explorer.{Limits, Walk, goes, tick}
use Rattle.rules.proofs.MeasureRows.{pick}
use Rattle.ledger.specs.History.{Every}
use Rattle.ledger.proofs.Lists.{every_append}
use Rattle.offers.specs.Chosen.{NoRead}
use Rattle.offers.proofs.Passing.{tick-passes}
use Rattle.offers.proofs.Following.{Replied, replied, follow, tick-moves, tick-stops, tick-ends}

abbrev pub EntriesOf : Move State → Type 0
EntriesOf (moves s es) = Every NoRead es
EntriesOf (asks s es x q) = Every NoRead es
EntriesOf (stops s f) = Unit {0}
EntriesOf (ends s) = Unit {0}

one_entry : (t k opcode slot mask v : ℕ) → (opcode ≡ 0 → ⊥) → (opcode ≡ 3 → ⊥) → Every NoRead (entry t k opcode slot mask v)
one_entry t k opcode slot mask v a b = ((a, b), tt)

-- a row without slot and value
bare : (t k opcode : ℕ) → (opcode ≡ 0 → ⊥) → (opcode ≡ 3 → ⊥) → Every NoRead (entry t k opcode no_slot 0 0)
bare t k opcode a b = one_entry t k opcode no_slot 0 0 a b

module _ (st : State) (t k : ℕ) where
  schedules-entries : (s : State) (es : List Entry) → Every NoRead es → EntriesOf (Machine.schedules s es)
  unfolding Machine.schedules
  schedules-entries s es h = h

  unless-entries : (r : Race) (s tracked : State) (n c o v : ℕ) → (n ≡ 0 → ⊥) → (n ≡ 3 → ⊥) →
      EntriesOf (Machine.stores_unless r s tracked t k n c o v)
  unless-entries no_race s tracked n c o v a b = one_entry t k n (Cell.slot_of (number s.numbers (count c))) 0 v a b
  unless-entries (race_of kind other) s tracked n c o v a b = tt

  stores-entries : (n c o v : ℕ) → (n ≡ 0 → ⊥) → (n ≡ 3 → ⊥) → EntriesOf (Machine.stores st t k n c o v)
  unfolding Machine.stores
  stores-entries n c o v a b =
      let up = version_raised st t in
      unless-entries (Cell.store_race up.clocks t c) up (with_clocks up (Cell.store_tracked up.clocks t c)) n c o v a b

  reads-entries : (x : AccessResult) (n r slot mask : ℕ) → (n ≡ 0 → ⊥) → (n ≡ 3 → ⊥) → EntriesOf (Machine.reads x t k n r slot mask)
  reads-entries (raced kind other s) n r slot mask a b = tt
  reads-entries (read v s) n r slot mask a b = one_entry t k n slot mask v a b

  leaves-entries : (x : AccessResult) (n c r : ℕ) → (n ≡ 0 → ⊥) → (n ≡ 3 → ⊥) → EntriesOf (Machine.leaves_in x t k n c r)
  leaves-entries (raced kind other s) n c r a b = tt
  leaves-entries (read v s) n c r a b = ((a, b), tt)

  writes-entries : (x : Race) (s : State) (n v : ℕ) → (n ≡ 0 → ⊥) → (n ≡ 3 → ⊥) → EntriesOf (Machine.writes_unless x st s t k n v)
  writes-entries no_race s n v a b = one_entry t k n no_slot 0 v a b
  writes-entries (race_of kind other) s n v a b = tt

  joins-entries : (target : ℕ) → EntriesOf (Machine.joins st t k 8 target)
  unfolding Machine.joins
  joins-entries target =
      pick EntriesOf (Machine.is_in st.numbers Machine.ended target) (λ e. bare t k 8 (omega arith) (omega arith))
      (λ e. schedules-entries (Machine.blocked_on st t target) [] tt)

  explores-entries : (n : ℕ) (on : Bool) → (n ≡ 0 → ⊥) → (n ≡ 3 → ⊥) → EntriesOf (Machine.explores st t k n on)
  explores-entries n on a b =
      pick EntriesOf (Machine.is_skipping st.numbers) (λ e. bare t k n a b)
      (λ e. pick EntriesOf (eqb (number st.numbers exploring) (cond on 1 0)) (λ f. tt) (λ f. bare t k n a b))

  acts-entries : (p : Program) (op : Op) → EntriesOf (Machine.acts p st t k op)
  unfolding Machine.acts_as
  acts-entries p (Table.load c o r) = tt
  acts-entries p (Table.store c o a) = stores-entries 1 c o a (omega arith) (omega arith)
  acts-entries p (Table.store_register c o r) = stores-entries 2 c o (Machine.register st t r) (omega arith) (omega arith)
  acts-entries p (Table.rmw c o f change r) = tt
  acts-entries p (Table.fence o) = bare t k 4 (omega arith) (omega arith)
  acts-entries p (Table.unsync_load c r) =
      reads-entries (Cell.unsync_load_done st t c) 5 r (Cell.newest (number st.numbers (count c))) 0 (omega arith) (omega arith)
  acts-entries p (Table.with_mut c change r) = leaves-entries (Cell.mut_done st t c change) 6 c r (omega arith) (omega arith)
  acts-entries p Table.yield =
      schedules-entries (Machine.completed (Machine.yield_done st t) t (one_more k)) (entry t k 7 no_slot 0 0)
      (bare t k 7 (omega arith) (omega arith))
  acts-entries p (Table.join target) = joins-entries target
  acts-entries p (Table.jump target) = bare t k 9 (omega arith) (omega arith)
  acts-entries p (Table.jump_if r a target) = bare t k 10 (omega arith) (omega arith)
  acts-entries p (Table.jump_unless r a target) = bare t k 11 (omega arith) (omega arith)
  acts-entries p (Table.check r a) =
      pick EntriesOf (eqb (Machine.register st t r) a) (λ e. bare t k 12 (omega arith) (omega arith)) (λ e. tt)
  acts-entries p Table.critical = explores-entries 13 false (omega arith) (omega arith)
  acts-entries p Table.explore_state = explores-entries 14 true (omega arith) (omega arith)
  acts-entries p Table.skip_branch = bare t k 15 (omega arith) (omega arith)
  acts-entries p (Table.spurious r) = tt
  acts-entries p (Table.plain_read c r) = reads-entries (plain_read_done st t c) 17 r no_slot 0 (omega arith) (omega arith)
  acts-entries p (Table.plain_write c a) =
      writes-entries (plain_write_race st.clocks t c) (plain_write_done st t c a) 18 a (omega arith) (omega arith)

  begun-entries : (p : Program) (op : Op) (x : Pending) → EntriesOf (Machine.begun_as p st t k op x)
  begun-entries p op nothing = acts-entries p op
  begun-entries p op (pends action c) = schedules-entries (Machine.with_operation st t action c) [] tt

module _ (st : State) (t k : ℕ) where
  begins-entries : (p : Program) (op : Op) → EntriesOf (Machine.begins p st t k op)
  unfolding Machine.begins
  begins-entries p op =
      pick EntriesOf (leb p.operations (number st.numbers rows_begun)) (λ e. tt)
      (λ e. begun-entries (Machine.row_begun st t) t k p op (pending_of op))

  row-entries : (p : Program) (row : Decoded Op) → EntriesOf (Machine.of_row p st t k row)
  row-entries p refused = tt
  row-entries p (decoded op) = pick EntriesOf (Machine.is_to_begin st t) (λ e. begins-entries p op) (λ e. acts-entries st t k p op)

  at-entries : (p : Program) → EntriesOf (Machine.next_at p st t k)
  unfolding Machine.next_at
  at-entries p =
      pick EntriesOf (Machine.is_to_begin st t && leb (row_count p t) k) (λ e. schedules-entries st t k (Machine.thread_ended st t) [] tt)
      (λ e. row-entries p (row_of p t k))

  bit-entries : (v : ℕ) (role : Role) → EntriesOf (Machine.bit_taken st t k v role)
  unfolding Machine.bit_taken
  bit-entries v (takes_bit r) = one_entry t k 16 no_slot 0 v (omega arith) (omega arith)
  bit-entries v (loads c o r) = tt
  bit-entries v (stores_operand c o a) = tt
  bit-entries v (stores_register c o r) = tt
  bit-entries v (modifies c o f change r) = tt
  bit-entries v otherwise = tt

next-entries : (p : Program) (st : State) → EntriesOf (Machine.next p st).move
unfolding Machine.next
next-entries p st =
    pick (λ (x : Event.Event State). EntriesOf x.move) (ltb (current st) threads)
    (λ e. at-entries st (current st) (active_row st) p) (λ e. tt)

thread-entries : (st : State) (whom : Whom) (at : ℕ) → EntriesOf (Machine.scheduled st whom at)
unfolding Machine.scheduled
thread-entries st nobody at =
    pick EntriesOf (Machine.all_over st.numbers threads 0) (λ e. tt)
    (λ e. pick EntriesOf (Machine.some_can_run st.numbers threads 0) (λ f. tt) (λ f. tt))
thread-entries st (thread t) at = pick EntriesOf (Machine.can_run st.numbers t) (λ e. tt) (λ e. tt)

-- with a thread or a bit
abbrev NoSlot : Question → Type 0
NoSlot (which_thread points initial standings) = Unit {0}
NoSlot (which_slot m) = ⊥
NoSlot which_bit = Unit {0}

answer-entries : (p : Program) (s : State) (q : Question) (a : Pick) → NoSlot q → Replied q a →
    EntriesOf (Machine.answered p s a)
unfolding Machine.answered
answer-entries p s (which_thread points initial standings) a n (whom, at, e) = rw e (thread-entries s whom at)
answer-entries p s (which_slot m) a n r = absurd n
answer-entries p s which_bit a n (bit, e) = rw e (bit-entries s (current s) (active_row s) (cond bit 1 0) (active_role p s))

-- Ticks

module _ (p : Program) (limits : Limits) (w v : Walk State) (g : tick (machine p) limits w ≡ goes v) where
  abbrev Noting : Type 0
  Noting = (new : List Entry) × (v.trace ≡ w.trace ++ new) × Every NoRead new

  moves-noting : (s : State) (es : List Entry) → (Machine.next p w.state).move ≡ moves s es → Noting
  moves-noting s es e =
      let f = follow p limits (Machine.next p w.state).site w v (moves s es) (sym (tick-moves p limits w s es e) ∙ g) in
      let k : EntriesOf (moves f.state f.entries) = rw (e ∙ f.is) at (next-entries p w.state) in
      (f.entries, f.trace-is, k)

  asks-noting : (s : State) (es : List Entry) (x : Bool) (q : Question) → NoSlot q →
      (Machine.next p w.state).move ≡ asks s es x q → Noting
  asks-noting s es x q n e =
      let k = tick-passes (machine p) limits w s es x q e in
      let pass = k.passing (let l = k.goes-past v g in rw g l) in
      let f =
      follow p limits (Machine.next p w.state).site pass.on v (Machine.answered p s pass.answer)
      (sym pass.tick_is ∙ g) in
      let before : EntriesOf (asks s es x q) = rw e at (next-entries p w.state) in
      let then : EntriesOf (moves f.state f.entries) =
      rw f.is at (answer-entries p s q pass.answer n (replied w.pos _ q pass.answer pass.replies)) in (
        es ++ f.entries,
        f.trace-is ∙ (ap (λ (y : List Entry). y ++ f.entries) pass.trace-is ∙ append_assoc w.trace es f.entries),
        every_append NoRead es f.entries before then,
      )

  by_move : (mv : Move State) → (Machine.next p w.state).move ≡ mv →
      ((s : State) (es : List Entry) (x : Bool) (m : Matched) → mv ≡ asks s es x (which_slot m) → ⊥) → Noting
  by_move (moves s es) e n = moves-noting s es e
  by_move (asks s es x (which_thread points initial standings)) e n =
      asks-noting s es x (which_thread points initial standings) tt e
  by_move (asks s es x (which_slot m)) e n = absurd (n s es x m refl)
  by_move (asks s es x which_bit) e n = asks-noting s es x which_bit tt e
  by_move (stops s f) e n = absurd (tick-stops p limits w v s f e g)
  by_move (ends s) e n = absurd (tick-ends p limits w v s e g)

  pub no_other : ((s : State) (es : List Entry) (x : Bool) (m : Matched) → (Machine.next p w.state).move ≡ asks s es x (which_slot m) → ⊥) →
      Noting
  no_other n = by_move (Machine.next p w.state).move refl n
