-- The measure at the machine's events: a row begins, a thread ends, a scheduling goes on. Assumes nothing.
--     next-lower                                   what the active thread does next
--     thread-lower, slot-lower, spurious-lower     how it goes on with an answer
use Prim.Native.Nat.{ℕ, ◌+◌, ◌-◌, ◌*◌, ◌≤◌, ◌<◌}
use mathlib.Core.List.{List, []}
use mathlib.Core.Bool.{Bool, true, false, cond, ◌&&◌, ◌||◌}
use mathlib.Core.Path.{◌≡◌, refl, ap, subst, ◌∙◌}
use mathlib.Core.Logic.{◌⊎◌, inl, inr}
use native.Mathlib.Omega.{arith}
use lib.Dec.{eqb, ltb, leb}
use borrow.Author.Tests.{eqb-true, ltb-true, leb-false}
use Rattle.rules.specs.Vector.{Whom, nobody, thread, largest, one_more}
use Rattle.rules.specs.Table.{Op, Decoded, refused, decoded}
use Rattle.rules.specs.Event.{Event, run_thread, read_slot, take_bit, moves}
use Rattle.rules.specs.State as State
use Rattle.rules.specs.State.{State, Numbers, number, with_number, threads, phase, rows_begun, active_thread, rows_of, operation, access_branch, non_load_branch}
use Rattle.rules.specs.Machine
use Rattle.rules.specs.Machine.{Program, Pending, nothing, pends, role_in, pending_of, current, active_row, active_role, row_of, row_count, runnable, yielded, ended, to_begin, to_act, no_operation}
use Rattle.rules.specs.Measure.{measure, Whole, CanAct, Ready}
use Rattle.rules.proofs.NumberLaws.{more-below}
use Rattle.rules.proofs.Measure.{Is, aside, to_state, to_phase, to_begun, to_cell, seen, to_active, other_work}
use Rattle.rules.proofs.MeasureLoops.{awake-all, freed-all}
use Rattle.rules.proofs.MeasureRows.{pick, both_left, both_right, OnCell, RoleOnCell, row-on-cell}
use Rattle.rules.proofs.AccessLaws.{access-kept}
use Rattle.rules.proofs.MeasureSteps.{Acting, Lower, lowered, asking, stopping, ending, measure-is, ready-is, at-begin, measure-part, acting-is, acting-most, acts-lower, read_lower, bit-lower}

-- A row that is to begin
module _ (p : Program) (limited : p.operations ≤ largest) (t s b m n : ℕ) (below : t < threads) (can : CanAct s)
    (most : 3 * (p.operations - b) + (m + 5) ≤ n) where
  abbrev At : State → Type 0
  At st = Is t s to_begin b m st.numbers

  begun-is : (st : State) → At st → b < p.operations → Is t s to_act (b + 1) m (Machine.row_begun st t).numbers
  begun-is st is h =
      let numbers = with_number st.numbers rows_begun (one_more (number st.numbers rows_begun)) in
      let e : one_more (number st.numbers rows_begun) ≡ b + 1 = ap one_more is.rows ∙ more-below b (omega arith) in
      subst (λ (x : ℕ). Is t s to_act x m (Machine.row_begun st t).numbers) e
      (to_phase below
      (aside below (to_begun below is (one_more (number st.numbers rows_begun))) (rows_of t) (one_more (number numbers (rows_of t))) (omega arith))
      to_act)

  begun-lower : (st : State) (k : ℕ) (op : Op) (pending : Pending) → OnCell (pending_of op) → OnCell pending →
      Is t s to_act (b + 1) m st.numbers → b < p.operations → Lower p n (Machine.begun_as p st t k op pending)
  unfolding Machine.schedules
  begun-lower st k op nothing row h after less = acts-lower p t s to_act (b + 1) m n below can refl (omega arith) st k op row after
  begun-lower st k op (pends action c) row h after less =
      let st' = Machine.with_operation st t action c in
      let last = to_cell below (aside below after (operation t) action (omega arith)) c h in
      let low : Whole st'.numbers × (measure p st' < n) = (last.whole, omega (arith, measure-is p st' last, at-begin can)) in
      asking low

  begins-lower : (st : State) (k : ℕ) (op : Op) → OnCell (pending_of op) → At st → Lower p n (Machine.begins p st t k op)
  unfolding Machine.begins
  begins-lower st k op h is =
      pick (Lower p n) (leb p.operations (number st.numbers rows_begun)) (λ e. stopping)
      (λ e.
      let less : b < p.operations = omega (arith, leb-false, is.rows) in
      begun-lower (Machine.row_begun st t) k op (pending_of op) h h (begun-is st is less) less)

  -- "Past its last row a thread ends"
  ended-lower : (st : State) → At st → Lower p n (Machine.schedules (Machine.thread_ended st t) [])
  unfolding Machine.thread_ended Machine.schedules
  ended-lower st is =
      let all = freed-all below 5 0 _ (omega arith) (aside below (to_state below is ended) (operation t) no_operation (omega arith)) in
      let low : Whole (Machine.thread_ended st t).numbers × (measure p (Machine.thread_ended st t) < n) =
      (all.1.whole, omega (arith, measure-is p (Machine.thread_ended st t) all.1, all.3 (omega arith), at-begin can)) in
      asking low

-- A scheduling goes on with the chosen thread
module _ {t s ph b m : ℕ} (below : t < threads) where
  -- it stands as it did
  pub switched-is : (st : State) (at : ℕ) → Is t s ph b m (with_number st.numbers active_thread t) →
      Is t s ph b m (Machine.switched st t at).numbers
  unfolding Machine.switched Machine.others_awake
  switched-is st at is =
      let now = Machine.with_numbers st (with_number st.numbers active_thread t) in
      awake-all below (Machine.access_made now t at).numbers (access-kept (Is t s ph b m) (λ a c at h is. aside below is (access_branch c) at (omega arith))
      (λ a c at h is. aside below is (non_load_branch c) at (omega arith)) now t at (is.whole.on_cell t below) is)

either : (x y : Bool) → (x || y) ≡ true → (x ≡ true) ⊎ (y ≡ true)
either true y e = inl refl
either false y e = inr e

pub can-act : (numbers : Numbers) (t : ℕ) → Machine.can_run numbers t ≡ true → CanAct (number numbers (State.state t))
can-act numbers t e =
    elim (either (Machine.is_in numbers runnable t) (Machine.is_in numbers yielded t) (both_right (ltb t threads) _ e)) [
      | inl f ↦ inl (eqb-true _ _ f)
      | inr f ↦ inr (eqb-true _ _ f)
    ]

-- How the machine goes on with an answer
module _ (p : Program) (n : ℕ) where
  -- "(d) the branch chooses.": the threads that wake have as many ticks left as before
  scheduled-lower : (st : State) (whom : Whom) (at : ℕ) → Whole st.numbers → measure p st < n → Lower p n (Machine.scheduled st whom at)
  unfolding Machine.scheduled
  scheduled-lower st nobody at whole less = pick (Lower p n) (Machine.all_over st.numbers threads 0) (λ e. ending)
      (λ e. pick (Lower p n) (Machine.some_can_run st.numbers threads 0) (λ f. stopping) (λ f. stopping))
  scheduled-lower st (thread t) at whole less =
      pick (Lower p n) (Machine.can_run st.numbers t) (λ e. runs e) (λ e. stopping)
    where
      runs : Machine.can_run st.numbers t ≡ true → Lower p n (moves (Machine.switched st t at) [])
      runs e =
          let below : t < threads = ltb-true t threads (both_left _ _ e) in
          let after = switched-is below st at (to_active st.numbers t below whole) in
          lowered (ready-is (Machine.switched st t at) below (can-act st.numbers t e) after)
          (omega (arith, measure-is p (Machine.switched st t at) after, measure-part p st t below whole))

  -- an answer of the question's kind
  pub thread-lower : (st : State) (whom : Whom) (at : ℕ) → Whole st.numbers × (measure p st < n) →
      Lower p n (Machine.answered p st (run_thread whom at))
  unfolding Machine.answered
  thread-lower st whom at h = scheduled-lower st whom at h.0 h.1

  pub slot-lower : (st : State) (slot : ℕ) (offered : List ℕ) → Acting p n st → Lower p n (Machine.answered p st (read_slot slot offered))
  unfolding Machine.answered
  slot-lower st slot offered h =
      read_lower p (current st) _ _ _ _ n h.ready.below h.ready.runs h.acts (acting-most p n st h) st (active_row st)
      slot (Machine.mask_of 0 offered) (active_role p st) (row-on-cell p (current st) (active_row st)) (acting-is p n st h)

  pub spurious-lower : (st : State) (bit : Bool) → Acting p n st → Lower p n (Machine.answered p st (take_bit bit))
  unfolding Machine.answered
  spurious-lower st bit h =
      bit-lower p (current st) _ _ _ _ n h.ready.below h.ready.runs h.acts (acting-most p n st h) st (active_row st)
      (cond bit 1 0) (active_role p st) (acting-is p n st h)

-- What the active thread does next
module _ (p : Program) (limited : p.operations ≤ largest) (st : State) (r : Ready st) where
  begin-is : eqb (number st.numbers (phase (current st))) to_begin ≡ true →
      Is (current st) (number st.numbers (State.state (current st))) to_begin (number st.numbers rows_begun)
      (other_work st.numbers (current st)) st.numbers
  begin-is e = seen st.numbers (current st) r.below r.whole refl refl (eqb-true _ _ e)

  begin-most : eqb (number st.numbers (phase (current st))) to_begin ≡ true →
      3 * (p.operations - number st.numbers rows_begun) + (other_work st.numbers (current st) + 5) ≤ measure p st
  begin-most e = omega (arith, measure-is p st (begin-is e), at-begin r.runs)

  row-lower : (k : ℕ) (row : Decoded Op) → RoleOnCell (role_in row) → Lower p (measure p st) (Machine.of_row p st (current st) k row)
  row-lower k refused h = stopping
  row-lower k (decoded op) h =
      pick (Lower p (measure p st)) (Machine.is_to_begin st (current st))
      (λ e. begins-lower p limited (current st) _ _ _ (measure p st) r.below r.runs (begin-most e) st k op h (begin-is e))
      (λ e.
      let acting : Acting p (measure p st) st = record { ready = r; acts = e; most = omega arith } in
      acts-lower p (current st) _ _ _ _ (measure p st) r.below r.runs e (acting-most p (measure p st) st acting) st k op h
      (acting-is p (measure p st) st acting))

  next-at : (k : ℕ) → Lower p (measure p st) (Machine.next_at p st (current st) k)
  unfolding Machine.next_at
  next-at k =
      pick (Lower p (measure p st)) (Machine.is_to_begin st (current st) && leb (row_count p (current st)) k)
      (λ e.
      let to_end = both_left _ _ e in
      ended-lower p limited (current st) _ _ _ (measure p st) r.below r.runs (begin-most to_end) st (begin-is to_end))
      (λ e. row-lower k (row_of p (current st) k) (row-on-cell p (current st) k))

  pub next-lower : Lower p (measure p st) (Machine.next p st).move
  unfolding Machine.next
  next-lower =
      pick (λ (x : Event State). Lower p (measure p st) x.move) (ltb (current st) threads) (λ e. next-at (active_row st)) (λ e. stopping)
