-- What the active thread does next: its row begins or acts, or the thread ends. Assumes nothing.
--     begins-good, ended-good       a row that begins, a thread that ends
--     next-good                     what the active thread does next
use Prim.Native.Nat.{ℕ, ◌+◌, ◌-◌, ◌≤◌, ◌<◌}
use mathlib.Core.List.{[]}
use mathlib.Core.Bool.{Bool, true, false, ◌&&◌}
use mathlib.Core.Path.{◌≡◌, refl, subst}
use mathlib.Core.Logic.{◌≢◌}
use native.Mathlib.Omega.{arith}
use lib.Dec.{leb}
use borrow.Author.Tests.{eqb-true, eqb-false, leb-true, leb-false, lt-ltb}
use Rattle.rules.specs.Vector.{one_more, largest}
use Rattle.rules.specs.Table.{Op, decoded, room_of, threads_of, cells_of, judged, good}
use Rattle.rules.specs.Event as Event
use Rattle.rules.specs.State as State
use Rattle.rules.specs.State.{State, Numbers, number, with_number, threads, cells, phase, rows_begun, rows_of, operation, operates_on, next_row, awaits}
use Rattle.rules.specs.Machine as Machine
use Rattle.rules.specs.Machine.{Program, Pending, nothing, pends, pending_of, current, row_of, row_count, for_threads, freed, ended, to_begin, to_act, no_operation}
use Rattle.rules.specs.Measure.{CanAct}
use Rattle.rules.proofs.NumberLaws.{five-has, more-below}
use Rattle.rules.proofs.Measure.{Is, aside, to_state, to_phase, to_begun, to_cell, seen, other_work}
use Rattle.rules.proofs.MeasureLoops.{freed-all}
use Rattle.rules.proofs.MeasureRows.{pick, both_left, both_right, Names, OnCell, row-on-cell}
use Rattle.standing.specs.Standing.{Thread, FactsLeft, FactsHold, Schedules, under_way}
use Rattle.standing.proofs.Facts.{acts-so, Facts, keep, begun_one, freed-facts, freed-none, opened, closed, holding}
use Rattle.standing.proofs.Rows.{accepted-row}
use Rattle.standing.proofs.Steps.{Good, moving, asking, stops_at, acts-good}

module _ (p : Program) (held : cells_of p.table ≤ cells) (few : threads_of p.table ≤ threads) (limited : p.operations ≤ largest) where
  -- A row has begun: thread t runs at row k, which is to act
  module _ (t s k w b m q n : ℕ) (within : t < threads_of p.table) (can : CanAct s) (own : Thread p t s k to_act w)
      (sum : n + (q + to_act) ≡ b) (most : b ≤ p.operations) where
    begun-holds : (st : State) → Is t s to_act b m st.numbers → Facts p t k q b threads st.numbers → FactsHold p st (n + 0)
    begun-holds st is facts = holding p held few t (omega arith) st (n + 0) within can is facts own (omega arith)

    begun-good : (st : State) (row : Op) (pending : Pending) → row_of p t k ≡ decoded row →
        Names (room_of p.table (row_count p t) k) row → OnCell pending → Is t s to_act b m st.numbers →
        Facts p t k q b threads st.numbers → Good p n (Machine.begun_as p st t k row pending)
    unfolding Machine.schedules
    begun-good st row nothing e names h is facts =
        acts-good p held few t s k w b m q n within can own (omega arith) most st row e names (record { is = is; facts = facts })
    begun-good st row (pends op c) e names h is facts =
        let below : t < threads = omega arith in
        let st' = Machine.with_operation st t op c in
        let last = to_cell below (aside below is (operation t) op (omega arith)) c h in
        let facts' = keep p held few t below (keep p held few t below facts (operation t) op (omega arith)) (operates_on t) c (omega arith) in
        let asked : Schedules p st' (n + 0) _ _ =
        record { over = (begun-holds st' last facts').over; is_first = refl; stand = refl } in
        asking asked

  -- The active thread
  module _ (st : State) (n : ℕ) (holds : FactsHold p st n) where
    abbrev a : Numbers
    a = st.numbers

    abbrev t : ℕ
    t = current st

    abbrev s : ℕ
    s = number a (State.state t)

    abbrev k : ℕ
    k = number a (next_row t)

    abbrev q : ℕ
    q = under_way a - number a (phase t)

    stands : FactsLeft p st n
    stands = holds.over

    below : t < threads
    below = omega (arith, stands.runs)

    phase-in : number a (phase t) ≤ under_way a
    phase-in = five-has (λ (i : ℕ). number a (phase i)) t below

    own : Thread p t s k (number a (phase t)) (number a (awaits t))
    own = stands.each t below

    facts : Facts p t k q (number a rows_begun) threads a
    facts = opened p held few t below st n threads (λ d. refl) stands

    module _ (e : number a (phase t) ≡ to_begin) where
      is-begin : Is t s to_begin (number a rows_begun) (other_work a t) a
      is-begin = seen a t below stands.whole refl refl e

      -- "12 a row is to begin with L begun"
      begins-good : (op : Op) → k < row_count p t → row_of p t k ≡ decoded op → Names (room_of p.table (row_count p t) k) op →
          OnCell (pending_of op) → Good p n (Machine.begins p st t k op)
      unfolding Machine.begins
      begins-good op row is_row names on_cell =
          pick (Good p n) (leb p.operations (number a rows_begun))
          (λ f. moving (stops_at st Event.rows (omega arith) stands))
          (λ f. begin (leb-false _ _ f))
        where
          begin : number a rows_begun < p.operations → Good p n (Machine.begun_as p (Machine.row_begun st t) t k op (pending_of op))
          begin less =
              let small : t < threads = below in
              let b = number a rows_begun in
              let more : one_more b ≡ b + 1 = more-below b (omega arith) in
              let numbers = with_number a rows_begun (one_more b) in
              let begun-is : Is t s to_act (b + 1) (other_work a t) (Machine.row_begun st t).numbers =
              subst (λ (x : ℕ). Is t s to_act x (other_work a t) (Machine.row_begun st t).numbers) more
              (to_phase below (aside below (to_begun below is-begin (one_more b)) (rows_of t) (one_more (number numbers (rows_of t))) (omega arith)) to_act) in
              let f1 = keep p held few t below facts rows_begun (one_more b) (omega arith) in
              let fewer : number numbers (rows_of t) ≤ b = omega (arith, five-has (λ (i : ℕ). number numbers (rows_of i)) t below, f1.rows) in
              let f2 = begun_one p held few t below f1 (one_more (number numbers (rows_of t))) (more-below _ (omega arith)) in
              let f3 = keep p held few t below f2 (phase t) to_act (omega arith) in
              let acts : Thread p t s k to_act (number a (awaits t)) =
              record {
                present = own.present;
                missing = own.missing;
                phased = omega arith;
                row = own.row;
                acts = λ g. row;
                over = λ g. absurd ((acts-so holds.ready).2 g);
                waits = λ g. absurd ((acts-so holds.ready).3 g);
              } in
              begun-good t s k (number a (awaits t)) (b + 1) (other_work a t) q n stands.runs holds.ready acts
              (omega (arith, stands.entries, phase-in)) (omega arith) (Machine.row_begun st t) op (pending_of op) is_row names on_cell begun-is f3

      -- "Past its last row a thread ends"
      ended-good : row_count p t ≤ k → Good p n (Machine.schedules (Machine.thread_ended st t) [])
      unfolding Machine.thread_ended Machine.schedules
      ended-good past =
          let small : t < threads = below in
          let all = freed-all below 5 0 _ (omega arith) (aside below (to_state below is-begin ended) (operation t) no_operation (omega arith)) in
          let f1 = keep p held few t below facts (State.state t) ended (omega arith) in
          let f2 = keep p held few t below f1 (operation t) no_operation (omega arith) in
          let f3 = freed-facts p held few t below _ f2 in
          let a2 = with_number (with_number a (State.state t) ended) (operation t) no_operation in
          let over : Thread p t ended k to_begin (number (for_threads (freed t) threads 0 a2) (awaits t)) =
          record {
            present = λ h. omega arith;
            missing = λ h. absurd (omega (arith, stands.runs));
            phased = omega arith;
            row = own.row;
            acts = λ h. absurd (omega arith);
            over = λ h. (refl, omega (arith, own.row));
            waits = λ h. absurd (omega arith);
          } in
          let asked : Schedules p (Machine.thread_ended st t) (n + 0) _ _ =
          record {
            over = closed p held few t below {m = all.0} (Machine.thread_ended st t) (n + 0) stands.runs all.1 f3 over
                (λ g. absurd (omega arith)) (λ i h g o. absurd (freed-none t a2 f2.long i h g o))
                (omega (arith, stands.entries, phase-in, stands.limited));
            is_first = refl;
            stand = refl;
          } in
          asking asked

    -- the row has begun
    acts-next : (op : Op) → number a (phase t) ≡ to_act → row_of p t k ≡ decoded op →
        Names (room_of p.table (row_count p t) k) op → Good p n (Machine.acts p st t k op)
    acts-next op e row names =
        let is : Is t s to_act (number a rows_begun) (other_work a t) a = seen a t below stands.whole refl refl e in
        acts-good p held few t s k (number a (awaits t)) (number a rows_begun) (other_work a t) q n stands.runs holds.ready (rw e at own)
        (omega (arith, stands.entries, phase-in)) stands.limited st op row names (record { is = is; facts = facts })

    on-cell : (op : Op) → row_of p t k ≡ decoded op → OnCell (pending_of op)
    on-cell op e = rw e at (row-on-cell p t k)

    module _ (accepted : judged p.table ≡ good) where
      -- it begins its row or, where that has begun, acts
      row-good : k < row_count p t → Good p n (Machine.of_row p st t k (row_of p t k))
      row-good row =
          let said = accepted-row p accepted t k row in
          let op = said.0 in
          rw said.1
          (pick (Good p n) (Machine.is_to_begin st t)
          (λ e. begins-good (eqb-true _ _ e) op row said.1 said.2 (on-cell op said.1))
          (λ e. acts-next op (to-act (eqb-false _ _ e)) said.1 said.2))
        where
          to-act : number a (phase t) ≢ to_begin → number a (phase t) ≡ to_act
          to-act d = omega (arith, own.phased)

      next-at : Good p n (Machine.next_at p st t k)
      unfolding Machine.next_at
      next-at =
          pick (Good p n) (Machine.is_to_begin st t && leb (row_count p t) k)
          (λ e. ended-good (eqb-true _ _ (both_left _ _ e)) (leb-true _ _ (both_right (Machine.is_to_begin st t) _ e)))
          (λ e. row-good (is_row (Machine.is_to_begin st t) refl e))
        where
          is_row : (b : Bool) → Machine.is_to_begin st t ≡ b → (b && leb (row_count p t) k) ≡ false → k < row_count p t
          is_row true e f = leb-false _ _ f
          is_row false e f = let d : number a (phase t) ≢ to_begin = eqb-false _ _ e in own.acts (omega (arith, own.phased))

      pub next-good : Good p n (Machine.next p st).move
      unfolding Machine.next
      next-good = rw (lt-ltb (current st) threads below) next-at
