-- What stands after what a row does: the row is complete, or its thread blocks or yields, or it asks for what will complete it.
-- Assumes nothing.
--     After, Good          a move after an answer, and any move: what holds of it
--     acts-good            a row that acts
--     load_after, rmw-after, bit-after       a row that has its answer
use Prim.Native.Nat.{ℕ, ◌+◌, ◌≤◌, ◌<◌}
use mathlib.Core.List.{List, [], ◌∷◌}
use mathlib.Core.Bool.{Bool, true, false, cond, not}
use mathlib.Core.Path.{◌≡◌, refl, ap, ◌∙◌}
use mathlib.Core.Logic.{◌≢◌}
use native.Mathlib.Omega.{arith}
use lib.Dec.{eqb}
use lib.ListN.{length}
use borrow.Author.Tests.{lt-ltb, eqb-false}
use Rattle.rules.specs.Vector.{one_more}
use Rattle.rules.specs.Change.{Change}
use Rattle.rules.specs.Table as Table
use Rattle.rules.specs.Table.{Op, decoded, room_of, threads_of, cells_of}
use Rattle.rules.specs.Event as Event
use Rattle.rules.specs.Event.{Fault, impossible, fault_number, Entry, Matched, Question, which_slot, which_bit, Move, moves, asks, stops, ends}
use Rattle.rules.specs.State as State
use Rattle.rules.specs.State.{State, Numbers, number, with_number, threads, cells, phase, next_row, yields, last_yield, operation, awaits, count, is_seq_cst, exploring, skipping, store_at}
use Rattle.rules.specs.Cell.{version, store_done, slot_of, AccessResult, raced, read, Race, no_race, race_of, load_done, rmw_done, unsync_load_done, mut_done, store_race, store_tracked, with_clocks}
use Rattle.rules.specs.Plain.{plain_read_done, plain_write_race, plain_write_done}
use Rattle.rules.specs.Machine as Machine
use Rattle.rules.specs.Machine.{Program, row_count, row_of, active_op, runnable, blocked, yielded, ended, to_begin, to_act, completed}
use Rattle.rules.specs.Measure.{CanAct}
use Rattle.rules.proofs.StateLaws.{number_same, number-other}
use Rattle.rules.proofs.NumberLaws.{after, more-some}
use Rattle.rules.proofs.Measure.{Is, aside, to_state, to_phase}
use Rattle.rules.proofs.MeasureRows.{pick, Names}
use Rattle.rules.proofs.AccessLaws.{Leaves, is_raced, is_read, load-leaves, rmw-leaves, unsync-leaves, mut-leaves, plain-leaves}
use Rattle.standing.specs.Standing.{Thread, FactsLeft, FactsHold, Schedules, MatchOfRow, of_load, of_rmw, FactsRead, Takes, FactsAsked}
use Rattle.standing.proofs.Facts.{acts-so, Facts, keep, to_row, closed, holding}

-- What is to be known of a move, with n entries in the trace before it

pub data After (p : Program) (n : ℕ) : Move State → Type 0 where
  going : {st : State} {es : List Entry} → FactsHold p st (n + length es) → After p n (moves st es)
  stopping : {st : State} {f : Fault} → FactsLeft p st n → (f ≡ impossible → ⊥) → After p n (stops st f)
  ending : {st : State} → FactsLeft p st n → After p n (ends st)

pub data Good (p : Program) (n : ℕ) : Move State → Type 0 where
  moving : {m : Move State} → After p n m → Good p n m
  asking : {st : State} {es : List Entry} {explores : Bool} {q : Question} → FactsAsked p st (n + length es) q → Good p n (asks st es explores q)

-- a fault that document 01 has
pub stops_at : {p : Program} {n : ℕ} (st : State) (f : Fault) → fault_number f ≢ 20 → FactsLeft p st n → After p n (stops st f)
stops_at st f d over = stopping over (λ e. d (ap fault_number e))

-- What a row that is to act does: thread t runs at row k; b rows have begun, and of the other threads' rows q are under way
module _ (p : Program) (held : cells_of p.table ≤ cells) (few : threads_of p.table ≤ threads) (t s k w b m q n : ℕ)
    (within : t < threads_of p.table) (can : CanAct s) (own : Thread p t s k to_act w) (sum : n + (q + to_act) ≡ b)
    (limited : b ≤ p.operations) where
  below : t < threads
  below = omega arith

  row : k < row_count p t
  row = own.acts refl

  pub record On (a : Numbers) : Type 0 where
    pub is : Is t s to_act b m a
    pub facts : Facts p t k q b threads a

  abbrev pub At : State → Type 0
  At st = On st.numbers

  next-row : one_more k ≤ row_count p t
  next-row = omega (arith, more-some k, row)

  -- a thread past this row, which runs or has yielded
  passed : (s' j v : ℕ) → j ≤ row_count p t → (runnable ≤ s') × (s' ≤ ended) × (s' ≢ ended) × (s' ≢ blocked) → Thread p t s' j to_begin v
  passed s' j v h so = record {
    present = λ e. (so.0, so.1);
    missing = λ e. absurd (omega arith);
    phased = omega arith;
    row = h;
    acts = λ e. absurd (omega arith);
    over = λ e. absurd (so.2 e);
    waits = λ e. absurd (so.3 e);
  }

  -- a scheduling, where the thread then stands so
  schedules-good : {s' k' ph : ℕ} (st : State) (es : List Entry) → Is t s' ph b m st.numbers → Facts p t k' q b threads st.numbers →
      Thread p t s' k' ph (number st.numbers (awaits t)) →
      (s' ≡ blocked → number st.numbers (State.state (number st.numbers (awaits t))) ≢ ended) → s' ≢ ended →
      n + length es + (q + ph) ≡ b → Good p n (Machine.schedules st es)
  unfolding Machine.schedules
  schedules-good st es is facts thread mine goes e =
      let asked : Schedules p st (n + length es) _ _ =
      record {
        over = closed p held few t below st (n + length es) within is facts thread mine (λ i h g o. goes) (omega arith);
        is_first = refl;
        stand = refl;
      } in
      asking asked

  -- a store writes two numbers of its cell
  store-at : (st : State) (u c : ℕ) (from : List ℕ) (v o : ℕ) → c < cells_of p.table → At st → At (store_done st u c from v o)
  unfolding store_done
  store-at st u c from v o h at =
      let x = number st.numbers (count c) in
      let store = store_at c (slot_of x) in
      record {
        is = aside below (aside below at.is (count c) _ (omega arith)) (is_seq_cst store) _ (omega arith);
        facts =
            let one = keep p held few t below at.facts (count c) (one_more x) (omega (arith, more-some x)) in
            keep p held few t below one (is_seq_cst store) _ (omega arith);
      }

  skipped_at : (st : State) → At st → At (Machine.skipped st)
  skipped_at st at = record {
    is = aside below (aside below at.is exploring 0 (omega arith)) skipping 1 (omega arith);
    facts = keep p held few t below (keep p held few t below at.facts exploring 0 (omega arith)) skipping 1 (omega arith);
  }

  -- the row that the active thread is at
  op-is : (st : State) → At st → active_op p st ≡ row_of p t k
  op-is st at = rw (at.is.runs, at.facts.at) refl

  holds_at : (st : State) (x : ℕ) → x ≡ n → At st → FactsHold p st x
  holds_at st x e at = holding p held few t below st x within can at.is at.facts own (omega arith)

  -- the row is complete
  finished : (st : State) (j : ℕ) (x : Entry) → j ≤ row_count p t → At st → After p n (moves (completed st t j) (x ∷ []))
  finished st j x h at =
      let is = to_phase below (aside below at.is (next_row t) j (omega arith)) to_begin in
      let facts = keep p held few t below (to_row p held few t below at.facts j) (phase t) to_begin (omega arith) in
      going (holding p held few t below (completed st t j) (n + 1) within can is facts (passed s j w h (acts-so can)) (omega arith))

  stopped : (st : State) (f : Fault) → fault_number f ≢ 20 → At st → After p n (stops st f)
  stopped st f d at = stops_at st f d (holds_at st n refl at).over

  reads-after : (x : AccessResult) (opcode r slot mask : ℕ) → Leaves On x → After p n (Machine.reads x t k opcode r slot mask)
  reads-after (raced kind other st) opcode r slot mask (is_raced at) = stopped st _ (omega arith) at
  reads-after (read v st) opcode r slot mask (is_read at) = finished (Machine.with_register st t r v) (one_more k) _ next-row at

  leaves_after : (x : AccessResult) (opcode c r : ℕ) → Leaves On x → After p n (Machine.leaves_in x t k opcode c r)
  leaves_after (raced kind other st) opcode c r (is_raced at) = stopped st _ (omega arith) at
  leaves_after (read v st) opcode c r (is_read at) = finished (Machine.with_register st t r v) (one_more k) _ next-row at

  stores-unless : (x : Race) (st tracked : State) (opcode c o v : ℕ) → c < cells_of p.table → At st → At tracked →
      After p n (Machine.stores_unless x st tracked t k opcode c o v)
  stores-unless (race_of kind other) st tracked opcode c o v h at now = stopped st _ (omega arith) at
  stores-unless no_race st tracked opcode c o v h at now = finished _ (one_more k) _ next-row (store-at tracked t c _ v o h now)

  stores-after : (st : State) (opcode c o v : ℕ) → c < cells_of p.table → At st → After p n (Machine.stores st t k opcode c o v)
  unfolding Machine.stores
  stores-after st opcode c o v h at =
      let up = Machine.version_raised st t in
      stores-unless (store_race up.clocks t c) up (with_clocks up (store_tracked up.clocks t c)) opcode c o v h
      at at

  writes-unless : (x : Race) (st : State) (opcode c v : ℕ) → At st →
      After p n (Machine.writes_unless x st (plain_write_done st t c v) t k opcode v)
  unfolding plain_write_done
  writes-unless (race_of kind other) st opcode c v at = stopped st _ (omega arith) at
  writes-unless no_race st opcode c v at = finished _ (one_more k) _ next-row at

  -- "7 yield": the row is complete, the thread has yielded
  yield-good : (st : State) (x : Entry) → At st → Good p n (Machine.schedules (completed (Machine.yield_done st t) t (one_more k)) (x ∷ []))
  yield-good st x at =
      let v = version st.clocks t in
      let numbers = with_number (with_number st.numbers (State.state t) yielded) (last_yield t) v in
      let w = one_more (number numbers (yields t)) in
      let y1 = aside below (to_state below at.is yielded) (last_yield t) v (omega arith) in
      let y2 = aside below y1 (yields t) w (omega arith) in
      let y3 = aside below y2 (operation t) Machine.no_operation (omega arith) in
      let f0 = keep p held few t below at.facts (State.state t) yielded (omega arith) in
      let f1 = keep p held few t below f0 (last_yield t) v (omega arith) in
      let f2 = keep p held few t below f1 (yields t) w (omega arith) in
      let f3 = keep p held few t below f2 (operation t) Machine.no_operation (omega arith) in
      let f4 = to_row p held few t below f3 (one_more k) in
      let f5 = keep p held few t below f4 (phase t) to_begin (omega arith) in
      schedules-good (completed (Machine.yield_done st t) t (one_more k)) (x ∷ [])
      (to_phase below (aside below y3 (next_row t) (one_more k) (omega arith)) to_begin) f5
      (passed yielded (one_more k) _ next-row (omega arith)) (λ g. absurd (omega arith)) (omega arith) (omega arith)

  -- "13 `critical`; 14 `explore_state`"
  explores-after : (st : State) (opcode : ℕ) (on : Bool) → At st → After p n (Machine.explores st t k opcode on)
  explores-after st opcode on at =
      let v : ℕ = cond on 1 0 in
      pick (After p n) (Machine.is_skipping st.numbers) (λ e. finished st (one_more k) _ next-row at)
      (λ e. pick (After p n) (eqb (number st.numbers exploring) v) (λ f. stopped st Event.flags (omega arith) at)
      (λ f. finished (Machine.with_numbers st (with_number st.numbers exploring v)) (one_more k) _ next-row
      (record { is = aside below at.is exploring v (omega arith); facts = keep p held few t below at.facts exploring v (omega arith) })))

  -- a load or an RMW asks for its slot
  slot-good : (st : State) (explores : Bool) (m' : Matched) → At st → MatchOfRow p st m' → Good p n (asks st [] explores (which_slot m'))
  slot-good st explores m' at reading =
      let asked : FactsRead p st (n + 0) m' =
      record { holds = holds_at st (n + 0) (omega arith) at; to_act = rw at.is.runs at.is.in_phase; reading = reading } in
      asking asked

  bit-good : (st : State) (explores : Bool) (r : ℕ) → At st → active_op p st ≡ decoded (Table.spurious r) →
      Good p n (asks st [] explores which_bit)
  bit-good st explores r at e =
      let asked : Takes p st (n + 0) =
      record {
        holds = holds_at st (n + 0) (omega arith) at;
        to_act = rw at.is.runs at.is.in_phase;
        register = r;
        is_spurious = e;
      } in
      asking asked

  jumps-after : (st : State) (opcode : ℕ) (taken : Bool) (target : ℕ) → target ≤ row_count p t → At st →
      After p n (Machine.jumps st t k opcode taken target)
  jumps-after st opcode taken target h at =
      finished st (cond taken target (one_more k)) _ (pick (λ (j : ℕ). j ≤ row_count p t) taken (λ e. h) (λ e. next-row)) at

  -- a load or an RMW reads its slot, which is live
  pub load_after : (st : State) (c o r slot mask : ℕ) → slot < number st.numbers (count c) → At st →
      After p n (Machine.read_from st t k slot mask (Machine.loads c o r))
  unfolding Machine.read_from
  load_after st c o r slot mask h at =
      rw (lt-ltb slot (number st.numbers (count c)) h) (reads-after (load_done st t c slot o) 0 r slot mask (load-leaves On st t c slot o at))

  pub rmw-after : (st : State) (c o f : ℕ) (change : Change) (r slot mask : ℕ) → c < cells_of p.table →
      slot < number st.numbers (count c) → At st → After p n (Machine.read_from st t k slot mask (Machine.modifies c o f change r))
  unfolding Machine.read_from
  rmw-after st c o f change r slot mask named h at =
      rw (lt-ltb slot (number st.numbers (count c)) h)
      (reads-after (rmw_done st t c slot change o f) 3 r slot mask (rmw-leaves On (cells_of p.table) store-at st t c slot change o f named at))

  -- "16 `branch_spurious` into register (0 or 1)"
  pub bit-after : (st : State) (r v : ℕ) → At st → After p n (Machine.bit_taken st t k v (Machine.takes_bit r))
  unfolding Machine.bit_taken
  bit-after st r v at = finished (Machine.with_register st t r v) (one_more k) _ next-row at

  -- "8 join thread": the row is complete, or the thread blocks
  joins-good : (st : State) (opcode target : ℕ) → row_of p t k ≡ decoded (Table.join target) → target < threads_of p.table →
      At st → Good p n (Machine.joins st t k opcode target)
  unfolding Machine.joins
  joins-good st opcode target row named at =
      pick (Good p n) (Machine.is_in st.numbers ended target)
      (λ e. moving (finished (Machine.joined_with st t target) (one_more k) _ next-row at))
      (λ e.
      let a = st.numbers in
      let long = at.is.whole.long in
      let is = aside below (aside below (to_state below at.is blocked) (awaits t) target (omega arith)) (operation t) Machine.no_operation
      (omega arith) in
      let f1 = keep p held few t below at.facts (State.state t) blocked (omega arith) in
      let f2 = keep p held few t below f1 (awaits t) target (omega arith) in
      let f3 = keep p held few t below f2 (operation t) Machine.no_operation (omega arith) in
      let a1 = with_number a (State.state t) blocked in
      let a2 = with_number a1 (awaits t) target in
      let a3 = with_number a2 (operation t) Machine.no_operation in
      let awaited : number a3 (awaits t) ≡ target =
      number-other a2 (operation t) (awaits t) Machine.no_operation (omega arith) ∙ number_same a1 (awaits t) target (omega (arith, f1.long)) in
      let on_it : number a3 (State.state target) ≢ ended =
      let one = number-other a1 (awaits t) (State.state target) target (omega arith) in
      let two = number-other a2 (operation t) (State.state target) Machine.no_operation (omega arith) in
      rw (two, one)
      (after (λ (x : ℕ). x ≢ ended) a (State.state t) (State.state target) blocked (omega arith) (λ g. omega arith) (λ g. eqb-false _ _ e)) in
      let stands : Thread p t blocked k to_act target =
      record {
        present = λ h. omega arith;
        missing = λ h. absurd (omega arith);
        phased = own.phased;
        row = own.row;
        acts = own.acts;
        over = λ h. absurd (omega arith);
        waits = λ h. (refl, row, named);
      } in
      schedules-good (Machine.blocked_on st t target) [] is f3 (rw awaited stands) (λ g. rw awaited on_it) (omega arith) (omega arith))

  pub acts-good : (st : State) (op : Op) → row_of p t k ≡ decoded op → Names (room_of p.table (row_count p t) k) op →
      At st → Good p n (Machine.acts p st t k op)
  unfolding Machine.acts_as
  acts-good st (Table.load c o r) e h at =
      let up = Machine.version_raised st t in
      slot-good up _ _ at (of_load c o r (op-is up at ∙ e) (rw at.is.runs refl))
  acts-good st (Table.store c o a) e h at = moving (stores-after st 1 c o a h at)
  acts-good st (Table.store_register c o r) e h at =
      moving (stores-after st 2 c o (Machine.register st t r) h at)
  acts-good st (Table.rmw c o f change r) e h at =
      let up = Machine.version_raised st t in
      slot-good up _ _ at (of_rmw c o f change r (op-is up at ∙ e) refl)
  acts-good st (Table.fence o) e h at =
      moving (finished (Machine.fences p st t o) (one_more k) _ next-row at)
  acts-good st (Table.unsync_load c r) e h at =
      moving (reads-after (unsync_load_done st t c) 5 r _ 0 (unsync-leaves On st t c at))
  acts-good st (Table.with_mut c change r) e h at =
      moving (leaves_after (mut_done st t c change) 6 c r (mut-leaves On st t c change at))
  acts-good st Table.yield e h at = yield-good st _ at
  acts-good st (Table.join target) e h at = joins-good st 8 target e h at
  acts-good st (Table.jump target) e h at = moving (jumps-after st 9 true target h at)
  acts-good st (Table.jump_if r a target) e h at =
      moving (jumps-after st 10 (eqb (Machine.register st t r) a) target h at)
  acts-good st (Table.jump_unless r a target) e h at =
      moving (jumps-after st 11 (not (eqb (Machine.register st t r) a)) target h at)
  acts-good st (Table.check r a) e h at =
      moving (pick (After p n) (eqb (Machine.register st t r) a) (λ f. finished st (one_more k) _ next-row at)
      (λ f. stopped st Event.check (omega arith) at))
  acts-good st Table.critical e h at = moving (explores-after st 13 false at)
  acts-good st Table.explore_state e h at = moving (explores-after st 14 true at)
  acts-good st Table.skip_branch e h at =
      moving (finished (Machine.skipped st) (one_more k) _ next-row (skipped_at st at))
  acts-good st (Table.spurious r) e h at = bit-good st _ r at (op-is st at ∙ e)
  acts-good st (Table.plain_read c r) e h at =
      moving (reads-after (plain_read_done st t c) 17 r _ 0 (plain-leaves On st t c at))
  acts-good st (Table.plain_write c a) e h at = moving (writes-unless (plain_write_race st.clocks t c) st 18 c a at)
