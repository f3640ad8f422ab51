-- How the machine goes on with an answer: what was seen stays so, but for the slot that an RMW's store takes; and what a load or an
-- RMW has read is seen. Assumes nothing.
--     thread-steps, slot-steps, bit-steps        with each sort of answer
--     AfterOf, load_read, rmw-read               what is read with a slot is seen
use Prim.Native.Nat.{ℕ, ◌≤◌, ◌<◌}
use mathlib.Core.List.{List}
use mathlib.Core.Bool.{Bool, true, false, cond, not, ◌&&◌, true≢false}
use mathlib.Core.Path.{◌≡◌, refl}
use mathlib.Core.Logic.{inl, inr}
use native.Mathlib.Omega.{arith}
use lib.Dec.{eqb, ltb}
use lib.ListN.{length}
use borrow.Author.Tests.{ltb-true}
use Rattle.rules.specs.Vector.{Whom, nobody, thread, one_more}
use Rattle.rules.specs.Change.{Change}
use Rattle.rules.specs.Seen.{unseen}
use Rattle.rules.specs.Table as Table
use Rattle.rules.specs.Table.{Op, Decoded, decoded}
use Rattle.rules.specs.Event.{run_thread, read_slot, take_bit, Move, moves, asks, stops, ends}
use Rattle.rules.specs.State as State
use Rattle.rules.specs.State.{State, Numbers, number, with_number, with_vector, threads, cells, count, active_thread, access_branch, non_load_branch, last_access, last_non_load, schedule_of, operation}
use Rattle.rules.specs.Cell
use Rattle.rules.specs.Cell.{AccessResult, raced, read, with_clocks}
use Rattle.rules.specs.Machine
use Rattle.rules.specs.Machine.{Program, Role, loads, stores_operand, stores_register, modifies, takes_bit, otherwise, role_in, current, active_row, active_op, active_role, mask_of}
use Rattle.rules.proofs.MeasureRows.{pick, both_left, RoleOnCell, row-on-cell}
use Rattle.offers.specs.Seen.{Sees}
use Rattle.offers.proofs.Growing.{schedule-grows, access-grows}
use Rattle.offers.proofs.Steps.{SameCounts, SoundState, Calm, calm-trans, calm_more, calm-clocks, calm-rest, calm-step, calm-after, sees-calm}
use Rattle.offers.proofs.Accessing.{Accessed, SeesRead, load-accessed, load-sees, rmw-accessed, rmw-sees}
use Rattle.offers.proofs.Moves.{AnswerOf, none-counted, counts-then, counts-threads, kept-calm}

-- A scheduling goes on

module _ (n : ℕ) where
  same : (st : State) → Calm n n st st
  same st = calm_more n n st (omega arith)

  -- "record access with this branch and vector"
  recorded-calm : (st : State) (op c at : ℕ) (parts : List ℕ) → c < 4 → Calm n n st (Machine.access_recorded st op c at parts)
  recorded-calm st op c at parts h =
      let clocks = with_vector st.clocks (last_access c) parts in
      let a = st.numbers in
      let numbers = with_number a (access_branch c) at in
      let s1 : SameCounts a numbers = counts-then a a (none-counted a) (access_branch c) at (omega arith) in
      let one = calm-clocks n n st clocks (access-grows n st.clocks (last_access c) parts (omega arith) (omega arith)) in
      let both = calm-trans one
      (calm-clocks n n (with_clocks st clocks) (with_vector clocks (last_non_load c) parts)
      (access-grows n clocks (last_non_load c) parts (omega arith) (omega arith))) in
      pick (Calm n n st) (eqb op Machine.aLoad)
      {x = Machine.with_numbers (with_clocks st clocks) numbers}
      {y = Machine.with_numbers (with_clocks st (with_vector clocks (last_non_load c) parts))
      (with_number numbers (non_load_branch c) at)}
      (λ e. calm-trans one (calm-rest n (with_clocks st clocks) st.values numbers s1))
      (λ e. calm-trans both
      (calm-rest n (with_clocks st (with_vector clocks (last_non_load c) parts)) st.values
      (with_number numbers (non_load_branch c) at)
      (counts-then a numbers s1 (non_load_branch c) at (omega arith))))

  -- an operation is on a cell
  operates : (st : State) (t : ℕ) → eqb (Machine.operation_of st t) Machine.no_operation ≡ false → Machine.cell_of st t < 4
  operates st t e = go (ltb (Machine.cell_of st t) cells) refl e
    where
      go : (b : Bool) → ltb (Machine.cell_of st t) cells ≡ b →
          eqb (cond b (number st.numbers (operation t)) Machine.no_operation) 0 ≡ false →
          Machine.cell_of st t < 4
      go true f g = ltb-true (Machine.cell_of st t) 4 f
      go false f g = absurd (true≢false g)

  made-calm : (st : State) (t at : ℕ) → t < threads → Calm n n st (Machine.access_made st t at)
  unfolding Machine.access_made
  made-calm st t at h =
      let parts = Machine.schedule_grown st t in
      let grown = with_clocks st (with_vector st.clocks (schedule_of t) parts) in
      pick (Calm n n st) (eqb (Machine.operation_of st t) Machine.no_operation)
      {x = st} {y = Machine.access_recorded grown (Machine.operation_of st t) (Machine.cell_of st t) at parts}
      (λ e. same st)
      (λ e. calm-trans (calm-clocks n n st grown.clocks (schedule-grows n st.clocks t parts h))
      (recorded-calm grown (Machine.operation_of st t) (Machine.cell_of st t) at parts (operates st t e)))

  awake-counts : (chosen t : ℕ) (a : Numbers) → t < 5 → SameCounts a (Machine.awake chosen t a)
  awake-counts chosen t a h =
      pick (SameCounts a) (Machine.is_in a Machine.yielded t && not (eqb t chosen))
      (λ e. counts-then a a (none-counted a) (State.state t) Machine.runnable (omega arith)) (λ e. none-counted a)

  switched-calm : (st : State) (t at : ℕ) → t < threads → Calm n n st (Machine.switched st t at)
  unfolding Machine.switched Machine.others_awake
  switched-calm st t at h =
      let a = st.numbers in
      let now = Machine.with_numbers st (with_number a active_thread t) in
      let made = Machine.access_made now t at in
      calm-trans
      (calm-rest n st st.values (with_number a active_thread t) (counts-then a a (none-counted a) active_thread t (omega arith)))
      (calm-trans (made-calm now t at h)
      (calm-rest n made made.values (Machine.others_awake t made.numbers)
      (counts-threads (Machine.awake t) (awake-counts t) 5 0 made.numbers (omega arith))))

-- by whatever thread
pub thread-steps : (p : Program) (t n : ℕ) (st : State) → SoundState n st → (whom : Whom) (at : ℕ) →
    AnswerOf t n st (Machine.answered p st (run_thread whom at))
unfolding Machine.answered Machine.scheduled
thread-steps p t n st sound nobody at =
    pick (AnswerOf t n st) (Machine.all_over st.numbers threads 0) (λ e. same n st)
    (λ e. pick (AnswerOf t n st) (Machine.some_can_run st.numbers threads 0) (λ f. same n st) (λ f. same n st))
thread-steps p t n st sound (thread u) at =
    pick (AnswerOf t n st) (Machine.can_run st.numbers u)
    (λ e. let q = switched-calm n st u at (ltb-true u threads (both_left _ _ e)) in (inr q.quiet, calm-step q sound))
    (λ e. same n st)

-- the state where it goes on
abbrev pub AfterOf : ℕ → ℕ → ℕ → Move State → Type 0
AfterOf t c i (moves s es) = Sees s t c i
AfterOf t c i (asks s es x q) = Unit {0}
AfterOf t c i (stops s f) = Unit {0}
AfterOf t c i (ends s) = Unit {0}

module _ (t n : ℕ) (below : t < threads) (st : State) (sound : SoundState n st) (long : 44 ≤ length st.numbers) where
  reads-answer : (x : AccessResult) (k opcode r slot mask : ℕ) → Accessed t n below st x →
      AnswerOf t n st (Machine.reads x t k opcode r slot mask)
  reads-answer (raced kind other s) k opcode r slot mask h = h
  reads-answer (read v s) k opcode r slot mask h =
      (inl (omega arith), calm-after t n n below (kept-calm n s t r v (one_more k) below) h)

  reads-after : (x : AccessResult) (c i k opcode r slot mask : ℕ) → SeesRead t n below st c i x →
      AfterOf t c i (Machine.reads x t k opcode r slot mask)
  reads-after (raced kind other s) c i k opcode r slot mask h = tt
  reads-after (read v s) c i k opcode r slot mask h = sees-calm (kept-calm n s t r v (one_more k) below) t c i below h

  read_answer : (k slot mask : ℕ) (role : Role) → RoleOnCell role → slot < 7 →
      AnswerOf t n st (Machine.read_from st t k slot mask role)
  unfolding Machine.read_from
  read_answer k slot mask (loads c o r) on l =
      pick (AnswerOf t n st) (ltb slot (number st.numbers (count c)))
      (λ e. reads-answer (Cell.load_done st t c slot o) k 0 r slot mask (load-accessed t n below st sound c slot on l o))
      (λ e. same n st)
  read_answer k slot mask (modifies c o f change r) on l =
      pick (AnswerOf t n st) (ltb slot (number st.numbers (count c)))
      (λ e. reads-answer (Cell.rmw_done st t c slot change o f) k 3 r slot mask
      (rmw-accessed t n below st sound c slot on l change o f long))
      (λ e. same n st)
  read_answer k slot mask (stores_operand c o a) on l = same n st
  read_answer k slot mask (stores_register c o r) on l = same n st
  read_answer k slot mask (takes_bit r) on l = same n st
  read_answer k slot mask otherwise on l = same n st

  bit-answer : (u k v : ℕ) (role : Role) → AnswerOf u n st (Machine.bit_taken st t k v role)
  unfolding Machine.bit_taken
  bit-answer u k v (takes_bit r) = (inl (omega arith), calm-step (kept-calm n st t r v (one_more k) below) sound)
  bit-answer u k v (loads c o r) = same n st
  bit-answer u k v (stores_operand c o a) = same n st
  bit-answer u k v (stores_register c o r) = same n st
  bit-answer u k v (modifies c o f change r) = same n st
  bit-answer u k v otherwise = same n st

  -- what it has read
  load_after : (k slot mask c o r : ℕ) → c < 4 → slot < 7 → n < unseen →
      AfterOf t c slot (Machine.read_from st t k slot mask (loads c o r))
  unfolding Machine.read_from
  load_after k slot mask c o r on l few =
      pick (AfterOf t c slot) (ltb slot (number st.numbers (count c)))
      (λ e. reads-after (Cell.load_done st t c slot o) c slot k 0 r slot mask (load-sees t n below st sound c slot on l o few))
      (λ e. tt)

  rmw-after : (k slot mask c o f : ℕ) (change : Change) (r : ℕ) → c < 4 → slot < 7 → n < unseen →
      AfterOf t c slot (Machine.read_from st t k slot mask (modifies c o f change r))
  unfolding Machine.read_from
  rmw-after k slot mask c o f change r on l few =
      pick (AfterOf t c slot) (ltb slot (number st.numbers (count c)))
      (λ e. reads-after (Cell.rmw_done st t c slot change o f) c slot k 3 r slot mask
      (rmw-sees t n below st sound c slot on l change o f long few))
      (λ e. tt)

module _ (p : Program) (n : ℕ) (st : State) (sound : SoundState n st) (long : 44 ≤ length st.numbers)
    (below : current st < threads) where
  pub slot-steps : (slot : ℕ) (offered : List ℕ) → slot < 7 →
      AnswerOf (current st) n st (Machine.answered p st (read_slot slot offered))
  unfolding Machine.answered
  slot-steps slot offered h =
      read_answer (current st) n below st sound long (active_row st) slot (mask_of 0 offered) (active_role p st)
      (row-on-cell p (current st) (active_row st)) h

  pub bit-steps : (u : ℕ) (bit : Bool) → AnswerOf u n st (Machine.answered p st (take_bit bit))
  unfolding Machine.answered
  bit-steps u bit = bit-answer (current st) n below st sound long u (active_row st) (cond bit 1 0) (active_role p st)

  module _ (slot : ℕ) (offered : List ℕ) (l : slot < 7) (few : n < unseen) where
    on-cell : (row : Decoded Op) → active_op p st ≡ row → RoleOnCell (role_in row)
    on-cell row e = rw e at (row-on-cell p (current st) (active_row st))

    pub load_read : (c o r : ℕ) → active_op p st ≡ decoded (Table.load c o r) →
        AfterOf (current st) c slot (Machine.answered p st (read_slot slot offered))
    unfolding Machine.answered
    load_read c o r e =
        rw e
        (load_after (current st) n below st sound long (active_row st) slot (mask_of 0 offered) c o r
        (on-cell (decoded (Table.load c o r)) e) l few)

    pub rmw-read : (c o f : ℕ) (change : Change) (r : ℕ) → active_op p st ≡ decoded (Table.rmw c o f change r) →
        AfterOf (current st) c slot (Machine.answered p st (read_slot slot offered))
    unfolding Machine.answered
    rmw-read c o f change r e =
        rw e
        (rmw-after (current st) n below st sound long (active_row st) slot (mask_of 0 offered) c o f change r
        (on-cell (decoded (Table.rmw c o f change r)) e) l few)
