-- The measure at what a row does: the row is complete, or its thread blocks, or it asks for what will complete it.
-- Assumes nothing.
--     Lower                                 a move that lowers the measure, or asks for what will
--     acts-lower                            a row that acts
--     read_lower, bit-lower                 a row that has its answer
use Prim.Native.Nat.{ℕ, ◌+◌, ◌-◌, ◌*◌, ◌≤◌, ◌<◌}
use mathlib.Core.List.{List, []}
use mathlib.Core.Bool.{Bool, true, false, cond}
use mathlib.Core.Path.{◌≡◌, refl, ap, ◌∙◌}
use native.Mathlib.Omega.{arith}
use lib.Dec.{eqb, ltb}
use Rattle.rules.specs.Vector.{one_more}
use Rattle.rules.specs.Table as Table
use Rattle.rules.specs.Table.{Op}
use Rattle.rules.specs.Event as Event
use Rattle.rules.specs.Event.{Entry, Question, which_thread, which_slot, which_bit, moves, asks, stops, ends}
use Rattle.rules.specs.State as State
use Rattle.rules.specs.State.{State, number, with_number, threads, cells, phase, rows_begun, next_row, yields, last_yield, operation, awaits, count, is_seq_cst, exploring, skipping, store_at}
use Rattle.rules.specs.Cell.{version, store_done, slot_of, AccessResult, raced, read, Race, no_race, race_of, load_done, rmw_done, unsync_load_done, mut_done, store_race, store_tracked, with_clocks}
use Rattle.rules.specs.Plain.{plain_read_done, plain_write_race, plain_write_done}
use Rattle.rules.specs.Machine
use Rattle.rules.specs.Machine.{Program, Role, loads, stores_operand, stores_register, modifies, takes_bit, otherwise, pending_of, current, blocked, yielded, ended, to_begin, to_act, completed}
use Rattle.rules.specs.Measure.{ticks_left, ticks_left_of, measure, Whole, CanAct, Ready}
use Rattle.rules.proofs.Measure.{Is, aside, to_state, to_phase, seen, other_work, has_part}
use Rattle.rules.proofs.MeasureLoops.{acts-same}
use Rattle.rules.proofs.MeasureRows.{pick, OnCell, RoleOnCell}
use Rattle.rules.proofs.AccessLaws.{Leaves, is_read, load-leaves, rmw-leaves, unsync-leaves, mut-leaves, plain-leaves}

-- the active thread's row is to act
pub record Acting (p : Program) (n : ℕ) (st : State) : Type 0 where
  pub ready : Ready st
  pub acts : eqb (number st.numbers (phase (current st))) to_begin ≡ false
  pub most : measure p st ≤ n

-- what is known when the machine asks: a scheduling has lowered the measure, a row that reads a slot or takes a bit will
abbrev pub Asked : Program → ℕ → State → Question → Type 0
Asked p n st (which_thread points initial standings) = Whole st.numbers × (measure p st < n)
Asked p n st (which_slot offered) = Acting p n st
Asked p n st which_bit = Acting p n st

-- a move that lowers the measure below n, or is to
pub data Lower (p : Program) (n : ℕ) : Event.Move State → Type 0 where
  lowered : {st : State} {es : List Entry} → Ready st → measure p st < n → Lower p n (moves st es)
  asking : {st : State} {es : List Entry} {explores : Bool} {q : Question} → Asked p n st q → Lower p n (asks st es explores q)
  stopping : {st : State} {f : Event.Fault} → Lower p n (stops st f)
  ending : {st : State} → Lower p n (ends st)

-- the measure by the active thread's part, and by any thread's
pub measure-is : {t s ph b m : ℕ} (p : Program) (st : State) → Is t s ph b m st.numbers →
    measure p st ≡ 3 * (p.operations - b) + (m + ticks_left s ph)
unfolding measure
measure-is p st is = omega (arith, is.worth, ap (λ (x : ℕ). 3 * (p.operations - x)) is.rows)

pub measure-part : (p : Program) (st : State) (t : ℕ) → t < threads → Whole st.numbers →
    measure p st ≡ 3 * (p.operations - number st.numbers rows_begun) + (other_work st.numbers t + ticks_left_of st.numbers t)
unfolding measure
measure-part p st t below whole = omega (arith, has_part st.numbers t below whole)

pub ready-is : {t s ph b m : ℕ} (st : State) → t < threads → CanAct s → Is t s ph b m st.numbers → Ready st
ready-is st below can is = record { whole = is.whole; below = rw is.runs below; runs = rw (is.runs, is.stands) can }

-- the ticks that are left where a row is to begin, and where it is to act
pub at-begin : {s : ℕ} → CanAct s →
    (ticks_left s to_begin ≡ 5) × (ticks_left ended to_begin ≡ 0) × (ticks_left yielded to_begin ≡ 5) × (ticks_left s to_act ≡ 7)
unfolding ticks_left
at-begin can = (acts-same to_begin can, refl, refl, acts-same to_act can)

pub at-act : {s : ℕ} → CanAct s → (row : ℕ) → eqb row to_begin ≡ false → (ticks_left s row ≡ 7) × (ticks_left blocked row ≡ 6)
unfolding ticks_left
at-act can row e = (acts-same row can ∙ rw e refl, rw e refl)

-- the active thread, where its row is to act
module _ (p : Program) (n : ℕ) (st : State) (h : Acting p n st) where
  pub acting-is : Is (current st) (number st.numbers (State.state (current st))) (number st.numbers (phase (current st)))
      (number st.numbers rows_begun) (other_work st.numbers (current st)) st.numbers
  acting-is = seen st.numbers (current st) h.ready.below h.ready.whole refl refl refl

  pub acting-most : 3 * (p.operations - number st.numbers rows_begun) + (other_work st.numbers (current st) + 7) ≤ n
  acting-most = omega (arith, h.most, measure-is p st acting-is, at-act h.ready.runs (number st.numbers (phase (current st))) h.acts)

-- What a row that is to act does
module _ (p : Program) (t s ph b m n : ℕ) (below : t < threads) (can : CanAct s) (acts : eqb ph to_begin ≡ false)
    (most : 3 * (p.operations - b) + (m + 7) ≤ n) where
  abbrev pub At : State → Type 0
  At st = Is t s ph b m st.numbers

  -- the row is complete
  finished : (st : State) (k : ℕ) (es : List Entry) → At st → Lower p n (moves (completed st t k) es)
  finished st k es is =
      let after = to_phase below (aside below is (next_row t) k (omega arith)) to_begin in
      lowered (ready-is (completed st t k) below can after) (omega (arith, measure-is p (completed st t k) after, at-begin can))

  acting : (st : State) → At st → Acting p n st
  acting st is = record {
    ready = ready-is st below can is;
    acts = rw (is.runs, is.in_phase) acts;
    most = omega (arith, measure-is p st is, at-act can ph acts);
  }

  -- a store writes two numbers of its cell
  store-at : (st : State) (u c : ℕ) (from : List ℕ) (v o : ℕ) → c < cells → At st → At (store_done st u c from v o)
  unfolding store_done
  store-at st u c from v o h is =
      let store = store_at c (slot_of (number st.numbers (count c))) in
      aside below (aside below is (count c) _ (omega arith)) (is_seq_cst store) _ (omega arith)

  reads-lower : (x : AccessResult) (k opcode r slot mask : ℕ) → Leaves (Is t s ph b m) x → Lower p n (Machine.reads x t k opcode r slot mask)
  reads-lower (raced kind other st) k opcode r slot mask h = stopping
  reads-lower (read v st) k opcode r slot mask (is_read h) = finished (Machine.with_register st t r v) (one_more k) _ h

  leaves-lower : (x : AccessResult) (k opcode c r : ℕ) → Leaves (Is t s ph b m) x → Lower p n (Machine.leaves_in x t k opcode c r)
  leaves-lower (raced kind other st) k opcode c r h = stopping
  leaves-lower (read v st) k opcode c r (is_read h) = finished (Machine.with_register st t r v) (one_more k) _ h

  stores-unless : (x : Race) (st tracked : State) (k opcode c o v : ℕ) → c < cells → At tracked →
      Lower p n (Machine.stores_unless x st tracked t k opcode c o v)
  stores-unless (race_of kind other) st tracked k opcode c o v h is = stopping
  stores-unless no_race st tracked k opcode c o v h is = finished _ _ _ (store-at tracked t c _ v o h is)

  stores-lower : (st : State) (k opcode c o v : ℕ) → c < cells → At st → Lower p n (Machine.stores st t k opcode c o v)
  unfolding Machine.stores
  stores-lower st k opcode c o v h is =
      let up = Machine.version_raised st t in
      stores-unless (store_race up.clocks t c) up (with_clocks up (store_tracked up.clocks t c)) k opcode c o v h is

  writes-unless : (x : Race) (st : State) (k opcode c v : ℕ) → At st →
      Lower p n (Machine.writes_unless x st (plain_write_done st t c v) t k opcode v)
  unfolding plain_write_done
  writes-unless (race_of kind other) st k opcode c v is = stopping
  writes-unless no_race st k opcode c v is = finished _ _ _ is

  -- a scheduling, where a row or a thread's state has lowered the measure
  schedules-lower : {s' x : ℕ} (st : State) (es : List Entry) → Is t s' x b m st.numbers → ticks_left s' x < 7 →
      Lower p n (Machine.schedules st es)
  unfolding Machine.schedules
  schedules-lower st es is less =
      let low : Whole st.numbers × (measure p st < n) = (is.whole, omega (arith, measure-is p st is)) in
      asking low

  -- "7 yield": the row is complete, the thread has yielded
  yield-lower : (st : State) (k : ℕ) (es : List Entry) → At st → Lower p n (Machine.schedules (completed (Machine.yield_done st t) t k) es)
  yield-lower st k es is =
      let y1 = aside below (to_state below is yielded) (last_yield t) (version st.clocks t) (omega arith) in
      let numbers = with_number (with_number st.numbers (State.state t) yielded) (last_yield t) (version st.clocks t) in
      let y2 = aside below y1 (yields t) (one_more (number numbers (yields t))) (omega arith) in
      let y3 = aside below y2 (operation t) Machine.no_operation (omega arith) in
      schedules-lower (completed (Machine.yield_done st t) t k) es (to_phase below (aside below y3 (next_row t) k (omega arith)) to_begin)
      (omega (arith, at-begin can))

  -- "8 join thread": the row is complete, or the thread blocks
  joins-lower : (st : State) (k opcode target : ℕ) → At st → Lower p n (Machine.joins st t k opcode target)
  unfolding Machine.joins
  joins-lower st k opcode target is =
      pick (Lower p n) (Machine.is_in st.numbers ended target)
      (λ e. finished (Machine.joined_with st t target) (one_more k) _ is)
      (λ e. schedules-lower (Machine.blocked_on st t target) []
      (aside below (aside below (to_state below is blocked) (awaits t) target (omega arith)) (operation t) Machine.no_operation (omega arith))
      (omega (arith, at-act can ph acts)))

  -- "13 `critical`; 14 `explore_state`"
  explores-lower : (st : State) (k opcode : ℕ) (on : Bool) → At st → Lower p n (Machine.explores st t k opcode on)
  explores-lower st k opcode on is =
      let v : ℕ = cond on 1 0 in
      pick (Lower p n) (Machine.is_skipping st.numbers) (λ e. finished st (one_more k) _ is)
      (λ e. pick (Lower p n) (eqb (number st.numbers exploring) v) (λ f. stopping)
      (λ f. finished (Machine.with_numbers st (with_number st.numbers exploring v)) (one_more k) _ (aside below is exploring v (omega arith))))

  pub acts-lower : (st : State) (k : ℕ) (op : Op) → OnCell (pending_of op) → At st → Lower p n (Machine.acts p st t k op)
  unfolding Machine.acts_as
  acts-lower st k (Table.load c o r) h is = asking (acting (Machine.version_raised st t) is)
  acts-lower st k (Table.store c o a) h is = stores-lower st k 1 c o a h is
  acts-lower st k (Table.store_register c o r) h is = stores-lower st k 2 c o (Machine.register st t r) h is
  acts-lower st k (Table.rmw c o f change r) h is = asking (acting (Machine.version_raised st t) is)
  acts-lower st k (Table.fence o) h is = finished (Machine.fences p st t o) (one_more k) _ is
  acts-lower st k (Table.unsync_load c r) h is = reads-lower (unsync_load_done st t c) k 5 r _ 0 (unsync-leaves (Is t s ph b m) st t c is)
  acts-lower st k (Table.with_mut c change r) h is = leaves-lower (mut_done st t c change) k 6 c r (mut-leaves (Is t s ph b m) st t c change is)
  acts-lower st k Table.yield h is = yield-lower st (one_more k) _ is
  acts-lower st k (Table.join target) h is = joins-lower st k 8 target is
  acts-lower st k (Table.jump target) h is = finished st _ _ is
  acts-lower st k (Table.jump_if r a target) h is = finished st _ _ is
  acts-lower st k (Table.jump_unless r a target) h is = finished st _ _ is
  acts-lower st k (Table.check r a) h is =
      pick (Lower p n) (eqb (Machine.register st t r) a) (λ f. finished st (one_more k) _ is) (λ f. stopping)
  acts-lower st k Table.critical h is = explores-lower st k 13 false is
  acts-lower st k Table.explore_state h is = explores-lower st k 14 true is
  acts-lower st k Table.skip_branch h is =
      finished (Machine.skipped st) (one_more k) _ (aside below (aside below is exploring 0 (omega arith)) skipping 1 (omega arith))
  acts-lower st k (Table.spurious r) h is = asking (acting st is)
  acts-lower st k (Table.plain_read c r) h is = reads-lower (plain_read_done st t c) k 17 r _ 0 (plain-leaves (Is t s ph b m) st t c is)
  acts-lower st k (Table.plain_write c a) h is = writes-unless (plain_write_race st.clocks t c) st k 18 c a is

  -- a load or an RMW reads its slot
  pub read_lower : (st : State) (k slot mask : ℕ) (role : Role) → RoleOnCell role → At st →
      Lower p n (Machine.read_from st t k slot mask role)
  unfolding Machine.read_from
  read_lower st k slot mask (loads c o r) h is =
      pick (Lower p n) (ltb slot (number st.numbers (count c)))
      (λ e. reads-lower (load_done st t c slot o) k 0 r slot mask (load-leaves (Is t s ph b m) st t c slot o is)) (λ e. stopping)
  read_lower st k slot mask (modifies c o f change r) h is =
      pick (Lower p n) (ltb slot (number st.numbers (count c)))
      (λ e. reads-lower (rmw_done st t c slot change o f) k 3 r slot mask (rmw-leaves (Is t s ph b m) cells store-at st t c slot change o f h is)) (λ e. stopping)
  read_lower st k slot mask (stores_operand c o a) h is = stopping
  read_lower st k slot mask (stores_register c o r) h is = stopping
  read_lower st k slot mask (takes_bit r) h is = stopping
  read_lower st k slot mask otherwise h is = stopping

  -- "16 `branch_spurious` into register (0 or 1)"
  pub bit-lower : (st : State) (k v : ℕ) (role : Role) → At st → Lower p n (Machine.bit_taken st t k v role)
  unfolding Machine.bit_taken
  bit-lower st k v (takes_bit r) is = finished (Machine.with_register st t r v) (one_more k) _ is
  bit-lower st k v (loads c o r) is = stopping
  bit-lower st k v (stores_operand c o a) is = stopping
  bit-lower st k v (stores_register c o r) is = stopping
  bit-lower st k v (modifies c o f change r) is = stopping
  bit-lower st k v otherwise is = stopping
