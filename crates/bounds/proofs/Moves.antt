-- The bounds at the machine's events: a row begins, a thread ends, a scheduling goes on, a row has its answer. Assumes nothing.
--     Counted              the numbers of a state
--     next-going           what the active thread does next
--     thread-ending, slot-ending, spurious-ending        how it goes on with an answer
use Prim.Native.Nat.{ℕ, ◌+◌, ◌≤◌, ◌<◌}
use mathlib.Core.List.{List, []}
use mathlib.Core.Bool.{Bool, true, false, cond, not, ◌&&◌, true≢false}
use mathlib.Core.Path.{◌≡◌, refl, ap, ◌∙◌}
use native.Mathlib.Omega.{arith}
use native.Mathlib.Decide.{ℕ_discrete}
use lib.Dec.{eqb, ltb, leb}
use lib.ListN.{get_or}
use borrow.Author.Tests.{ltb-true, leb-false}
use Rattle.rules.specs.Vector.{Whom, nobody, thread, one_more, joined}
use Rattle.rules.specs.Table.{Op, Decoded, refused, decoded}
use Rattle.rules.specs.Event as Event
use Rattle.rules.specs.Event.{run_thread, read_slot, take_bit}
use Rattle.rules.specs.State as State
use Rattle.rules.specs.State.{State, Numbers, vector, with_vector, number, with_number, threads, cells, history}
use Rattle.rules.specs.State.{schedule_of, last_access, last_non_load, rows_of, operation, operates_on, phase, access_branch, non_load_branch, active_thread, rows_begun}
use Rattle.rules.specs.Cell.{version, with_clocks}
use Rattle.rules.specs.Machine
use Rattle.rules.specs.Machine.{Program, Pending, nothing, pends, pending_of, current, active_row, active_role, row_of, row_count, for_threads, runnable, ended, to_act, no_operation}
use Rattle.rules.proofs.NumberLaws.{for-threads}
use Rattle.rules.proofs.MeasureRows.{pick, both_left, Names, RowNames, widest, row-in-place, row-on-cell}
use Rattle.bounds.specs.Bounds
use Rattle.bounds.specs.Bounds.{ProgramFits, Counter, of_versions, of_choices, given, but, owed, waiting, PartBounded, NumbersBounded, BoundsHold}
use Rattle.bounds.proofs.Parts.{Fit, joined-fit, raised-fit, Since, fit_of, put}
use Rattle.bounds.proofs.Accesses.{with-clocks}
use Rattle.bounds.proofs.Numbers.{given-own, given-other, of-given, counted, more_rows, one-row, begins, aside, activates, Links, aside-links, phase-now, operation-now, rows-now, runs-now, wait-most}
use Rattle.bounds.proofs.Stands.{At, part-eased, eased-at, over, holds, asks-thread, opened, has_room, Ending, Going}
use Rattle.bounds.proofs.Rows.{no_more, acts-going, read_ending, bit-ending}

-- the numbers of a state that stands so
record Counted (p : Program) (t n : ℕ) (rows owing waits least : ℕ → ℕ) (a : Numbers) : Type 0 where
  tally : NumbersBounded p n owing least a
  links : Links t rows owing waits a

module _ {p : Program} {t n : ℕ} {rows owing waits least : ℕ → ℕ} where
  -- a thread's state is none of what is counted
  state-aside : (i v : ℕ) (a : Numbers) → i < threads → Counted p t n rows owing waits least a →
      Counted p t n rows owing waits least (with_number a (State.state i) v)
  state-aside i v a h s = record {
    tally = aside a s.tally (State.state i) v (omega arith);
    links = aside-links a s.links (State.state i) v (omega arith) (omega arith);
  }

  freed-counted : (target n' i : ℕ) (a : Numbers) → i + n' ≤ threads → Counted p t n rows owing waits least a →
      Counted p t n rows owing waits least (for_threads (Machine.freed target) n' i a)
  freed-counted target n' i a h s =
      for-threads (Counted p t n rows owing waits least) (Machine.freed target) threads
      (λ j b l k. pick (Counted p t n rows owing waits least)
      (Machine.is_in b Machine.blocked j && eqb (number b (State.awaits j)) target)
      (λ e. state-aside j runnable b l k) (λ e. k)) n' i a h s

  awake-counted : (chosen : ℕ) (a : Numbers) → Counted p t n rows owing waits least a →
      Counted p t n rows owing waits least (Machine.others_awake chosen a)
  unfolding Machine.others_awake
  awake-counted chosen a s =
      for-threads (Counted p t n rows owing waits least) (Machine.awake chosen) threads
      (λ j b l k. pick (Counted p t n rows owing waits least) (Machine.is_in b Machine.yielded j && not (eqb j chosen))
      (λ e. state-aside j runnable b l k) (λ e. k)) threads 0 a (omega arith) s

-- A row is to begin, or its thread to end
module _ (p : Program) (fits : ProgramFits p) (t n : ℕ) (rows owing waits least : ℕ → ℕ) (below : t < threads) (idle : owing t ≡ 0) where
  abbrev Idle : State → Type 0
  Idle st = At p t n rows owing owing waits least (PartBounded rows owing (but t waits)) st

  -- its thread's rows are one more, and it owes one
  abbrev rows_then : State → ℕ → ℕ
  rows_then st = given t (one_more (number (counted st.numbers) (rows_of t))) rows

  abbrev Begun : State → State → Type 0
  Begun was st =
      At p t n (rows_then was) (given t 1 owing) (given t 1 owing) waits least
      (PartBounded (rows_then was) (given t 1 owing) (given t 1 waits)) st

  begun-part : (st : State) → one_more (number (counted st.numbers) (rows_of t)) ≡ rows t + 1 → (k : Counter) (u x : ℕ) →
      u < threads →
      PartBounded rows owing (but t waits) k u x → PartBounded (rows_then st) (given t 1 owing) (given t 1 waits) k u x
  begun-part st e k u x b =
      elim (ℕ_discrete u t) [
        | yes q ↦ of-own k q
        | no d ↦ part-eased rows (rows_then st) owing (but t waits) (given t 1 owing) (given t 1 waits) k u x
            (omega (arith, given-other t (one_more (number (counted st.numbers) (rows_of t))) rows u d))
            (omega (arith, given-other t 1 owing u d)) (omega (arith, given-other t 1 waits u d, given-other t 0 waits u d))
      ]
    where
      of-own : (k : Counter) → u ≡ t → PartBounded rows owing (but t waits) k u x →
          PartBounded (rows_then st) (given t 1 owing) (given t 1 waits) k u x
      of-own of_versions q =
          rw q (λ h. omega (arith, given-own t (one_more (number (counted st.numbers) (rows_of t))) rows, given-own t 1 owing))
      of-own of_choices q =
          rw q (λ h. omega (
            arith,
            given-own t (one_more (number (counted st.numbers) (rows_of t))) rows,
            given-own t 1 waits,
            given-own t 0 waits,
          ))

  begun-at : (st : State) → number st.numbers rows_begun < p.operations → Idle st → Begun st (Machine.row_begun st t)
  begun-at st some s =
      let a = st.numbers in
      let v = one_more (number (counted a) (rows_of t)) in
      let e : v ≡ rows t + 1 =
      one-row a s.tally t below idle (omega (arith, fits.limited)) some ∙ ap (λ (x : ℕ). x + 1) (s.links.begun_rows t below) in
      let l1 = aside-links a s.links rows_begun (one_more (number a rows_begun)) (omega arith) (omega arith) in
      record {
        sound = (eased-at st (begun-part st e) s).sound;
        tally = aside (more_rows a t) (begins a s.tally t below idle (omega (arith, fits.limited)) some) (phase t) to_act
            (omega arith);
        links = phase-now (more_rows a t) (rows-now (counted a) l1 t below v) t below to_act;
      }

  begun-waits : (u : ℕ) → but t waits u ≤ given t 1 waits u
  begun-waits u =
      of-given (λ (x : ℕ). x ≤ given t 1 waits u) t 0 waits u (λ e. omega arith) (λ d. omega (arith, given-other t 1 waits u d))

  -- a row that sets no operation acts at once
  begun-acts : (was st : State) (k : ℕ) (op : Op) → Names (widest (row_count p t) k) op → version st.clocks t ≤ least t → Begun was st →
      Going p n (Machine.acts p st t k op)
  begun-acts was st k op h v s =
      acts-going p fits t n (rows_then was) (given t 1 owing) waits least below (given-own t 1 owing) st k op h v
      (eased-at st
      (λ i u x b j. part-eased (rows_then was) (rows_then was) (given t 1 owing) (given t 1 waits) (given t 1 owing) (but t waits) i u x
      (omega arith) (omega arith) (begun-waits u) j)
      s)

  -- "Scheduling is called before opcodes 0, 1, 2, 3 act (pending operation set first)"
  begun-going : (was st : State) (k : ℕ) (row : Op) (pending : Pending) → Names (widest (row_count p t) k) row → version st.clocks t ≤ least t →
      Begun was st → Going p n (Machine.begun_as p st t k row pending)
  unfolding Machine.schedules
  begun-going was st k row nothing h v s = begun-acts was st k row h v s
  begun-going was st k row (pends op c) h v s =
      let a = st.numbers in
      let st' = Machine.with_operation st t op c in
      let at : At p t n (rows_then was) (given t 1 owing) (given t 1 owing) (given t 1 waits) least
      (PartBounded (rows_then was) (given t 1 owing) (given t 1 waits)) st' = record {
        sound = s.sound;
        tally = aside (with_number a (operation t) op) (aside a s.tally (operation t) op (omega arith)) (operates_on t) c
            (omega arith);
        links =
            aside-links (with_number a (operation t) op) (operation-now a s.links t below op 1 (wait-most op)) (operates_on t) c
            (omega arith) (omega arith);
      } in
      no_more (Bounds.BoundsScheduling p st') n (asks-thread st' at (λ u b. omega arith) (λ u b. omega arith))

  begins-going : (st : State) (k : ℕ) (op : Op) → Names (widest (row_count p t) k) op → version st.clocks t ≤ least t → Idle st →
      Going p n (Machine.begins p st t k op)
  unfolding Machine.begins
  begins-going st k op h v s =
      pick (Going p n) (leb p.operations (number st.numbers rows_begun)) (λ e. over _ _ st s)
      (λ e. begun-going st (Machine.row_begun st t) k op (pending_of op) h v (begun-at st (leb-false _ _ e) s))

  -- "Past its last row a thread ends"
  ends-going : (st : State) → Idle st → Going p n (Machine.schedules (Machine.thread_ended st t) [])
  unfolding Machine.schedules Machine.thread_ended
  ends-going st s =
      let a = st.numbers in
      let st' = Machine.thread_ended st t in
      let one = state-aside t ended a below (record { tally = s.tally; links = s.links }) in
      let two = with_number a (State.state t) ended in
      let all = freed-counted t 5 0 (with_number two (operation t) no_operation) (omega arith) (record {
        tally = aside two one.tally (operation t) no_operation (omega arith);
        links = operation-now two one.links t below no_operation 0 (omega arith);
      }) in
      let at : At p t n rows owing owing (but t waits) least (PartBounded rows owing (but t waits)) st' =
      record { sound = s.sound; tally = all.tally; links = all.links } in
      no_more (Bounds.BoundsScheduling p st') n (asks-thread st' at (λ u b. omega arith) (λ u b. omega arith))

-- What the active thread does next
module _ (p : Program) (fits : ProgramFits p) (st : State) (n : ℕ) (s : BoundsHold p st n) where
  abbrev now : ℕ
  now = current st

  nothing-owed : Machine.is_to_begin st now ≡ true → owed st.numbers now ≡ 0
  nothing-owed e = rw e refl

  one-owed : Machine.is_to_begin st now ≡ false → owed st.numbers now ≡ 1
  one-owed e = rw e refl

  row-going : (k : ℕ) (row : Decoded Op) → RowNames (widest (row_count p now) k) row → Going p n (Machine.of_row p st now k row)
  unfolding RowNames
  row-going k refused h = over _ _ st (opened st s)
  row-going k (decoded op) h =
      pick (Going p n) (Machine.is_to_begin st now)
      (λ e. begins-going p fits now n _ _ _ _ s.tally.runs (nothing-owed e) st k op h (omega arith) (opened st s))
      (λ e. acts-going p fits now n _ _ _ _ s.tally.runs (one-owed e) st k op h (omega arith) (opened st s))

  next-at : (k : ℕ) → Going p n (Machine.next_at p st now k)
  unfolding Machine.next_at
  next-at k =
      pick (Going p n) (Machine.is_to_begin st now && leb (row_count p now) k)
      (λ e. ends-going p fits now n _ _ _ _ s.tally.runs (nothing-owed (both_left _ _ e)) st (opened st s))
      (λ e. row-going k (row_of p now k) (row-in-place p now k))

  pub next-going : Going p n (Machine.next p st).move
  unfolding Machine.next
  next-going =
      pick (λ (x : Event.Event State). Going p n x.move) (ltb now threads) (λ e. next-at (active_row st))
      (λ e. over _ _ st (opened st s))

-- A scheduling goes on with the chosen thread

-- a thread with an operation has one on a cell
chosen : (b : Bool) (x : ℕ) → eqb (cond b x no_operation) no_operation ≡ false → (b ≡ true) × (eqb x no_operation ≡ false)
chosen true x e = (refl, e)
chosen false x e = absurd (true≢false e)

module _ (p : Program) (fits : ProgramFits p) (t n : ℕ) (rows owing waits least : ℕ → ℕ) (below : t < threads) where
  abbrev Chosen : Counter → ℕ → ℕ → Type 0
  Chosen = PartBounded rows owing (but t waits)

  less-waits : (u : ℕ) → but t waits u ≤ waits u
  less-waits u = of-given (λ (x : ℕ). x ≤ waits u) t 0 waits u (λ e. omega arith) (λ d. omega arith)

  eases : (k : Counter) (u x : ℕ) → u < threads → PartBounded rows owing waits k u x → Chosen k u x
  eases k u x b h = part-eased rows rows owing waits owing (but t waits) k u x (omega arith) (omega arith) (less-waits u) h

  -- "join the last dependent access's vector into its schedule vector, raise its own part"
  grown-fit : (st : State) → Machine.cell_of st t < cells → waiting st.numbers t ≡ 1 →
      At p t n rows owing owing waits least (PartBounded rows owing waits) st → Fit (Chosen of_choices) (Machine.schedule_grown st t)
  grown-fit st h e s =
      let c = Machine.cell_of st t in
      let op = Machine.operation_of st t in
      let own = vector st.clocks (schedule_of t) in
      let dep = Machine.dependent_vector st.clocks op c in
      let Q = PartBounded rows owing waits of_choices in
      let fit-own : Fit Q own = fit_of st.clocks (schedule_of t) below s.sound.clocks in
      let fit-dep : Fit Q dep =
      pick (Fit Q) (eqb op Machine.aLoad) (λ f. fit_of st.clocks (last_non_load c) h s.sound.clocks)
      (λ f. fit_of st.clocks (last_access c) h s.sound.clocks) in
      let none = eqb (Machine.dependent_branch st.numbers op c) State.none in
      let fit : Fit Q (cond none own (joined own dep)) = pick (Fit Q) none (λ f. fit-own)
      (λ f. joined-fit Q own dep fit-own fit-dep) in
      let most : get_or (cond none own (joined own dep)) t 0 + 1 ≤ rows t =
      omega (arith, fit.each t below, s.links.pends t below) in
      raised-fit {Q = Q} {R = Chosen of_choices} (cond none own (joined own dep)) t below fit
      (omega (arith, has_room st.numbers t below fits.limited s.tally, s.links.begun_rows t below))
      (λ u x b d i. eases of_choices u x b i) (omega (arith, given-own t 0 waits))

  -- "record access with this branch and vector"
  recorded-at : (st : State) (op c at : ℕ) (parts : List ℕ) → c < cells → Fit (Chosen of_choices) parts →
      At p t n rows owing owing waits least Chosen st → At p t n rows owing owing waits least Chosen
      (Machine.access_recorded st op c at parts)
  recorded-at st op c at parts h f s =
      let clocks = with_vector st.clocks (last_access c) parts in
      let numbers = with_number st.numbers (access_branch c) at in
      let one : Since Chosen (version st.clocks) st.clocks → Since Chosen (version st.clocks) clocks =
      λ k. put st.clocks (last_access c) parts h k f (λ u b e. absurd (omega arith)) in
      let tally = aside st.numbers s.tally (access_branch c) at (omega arith) in
      let links = aside-links st.numbers s.links (access_branch c) at (omega arith) (omega arith) in
      pick (At p t n rows owing owing waits least Chosen) (eqb op Machine.aLoad)
      {x = Machine.with_numbers (with_clocks st clocks) numbers}
      {y = Machine.with_numbers (with_clocks st (with_vector clocks (last_non_load c) parts)) (with_number numbers (non_load_branch c) at)}
      (λ e. record { sound = with-clocks st clocks s.sound one; tally = tally; links = links })
      (λ e. record {
        sound = with-clocks st (with_vector clocks (last_non_load c) parts) s.sound
            (λ k. put clocks (last_non_load c) parts h (one k) f (λ u b e. absurd (omega arith)));
        tally = aside numbers tally (non_load_branch c) at (omega arith);
        links = aside-links numbers links (non_load_branch c) at (omega arith) (omega arith);
      })

  access-at : (st : State) (at : ℕ) → At p t n rows owing owing waits least (PartBounded rows owing waits) st →
      At p t n rows owing owing waits least Chosen (Machine.access_made st t at)
  unfolding Machine.access_made
  access-at st at s =
      let parts = Machine.schedule_grown st t in
      let op = Machine.operation_of st t in
      let c = Machine.cell_of st t in
      let eased = eased-at st eases s in
      let grown = with_clocks st (with_vector st.clocks (schedule_of t) parts) in
      pick (At p t n rows owing owing waits least Chosen) (eqb op no_operation) {x = st} {y = Machine.access_recorded grown op c at parts}
      (λ e. eased)
      (λ e.
      let q = chosen (ltb c cells) (number st.numbers (operation t)) e in
      let h : c < cells = ltb-true c cells q.0 in
      let f = grown-fit st h (let w : waiting st.numbers t ≡ 1 = rw q.1 refl in w) s in
      recorded-at grown op c at parts h f (record {
        sound = with-clocks st _ eased.sound (λ k. put st.clocks (schedule_of t) parts below k f
            (λ u b i. absurd (omega arith)));
        tally = s.tally;
        links = s.links;
      }))

  switched-at : (st : State) (was at : ℕ) → At p was n rows owing owing waits least (PartBounded rows owing waits) st →
      BoundsHold p (Machine.switched st t at) n
  unfolding Machine.switched
  switched-at st was at s =
      let now = Machine.with_numbers st (with_number st.numbers active_thread t) in
      let made = access-at now at (record {
        sound = s.sound;
        tally = activates st.numbers s.tally t below;
        links = runs-now st.numbers s.links t;
      }) in
      let all = awake-counted t (Machine.access_made now t at).numbers (record { tally = made.tally; links = made.links }) in
      let end : At p t n rows owing owing waits least Chosen (Machine.switched st t at) =
      record { sound = made.sound; tally = all.tally; links = all.links } in
      holds (Machine.switched st t at) end (λ u b. omega arith) (λ u b. omega arith)

-- How the machine goes on with an answer
module _ (p : Program) (fits : ProgramFits p) (n : ℕ) where
  scheduled-ending : (st : State) (whom : Whom) (at : ℕ) → Bounds.BoundsScheduling p st n → Ending p n (Machine.scheduled st whom at)
  unfolding Machine.scheduled
  scheduled-ending st nobody at s =
      pick (Ending p n) (Machine.all_over st.numbers threads 0) (λ e. over _ _ st (opened st s))
      (λ e. pick (Ending p n) (Machine.some_can_run st.numbers threads 0) (λ f. over _ _ st (opened st s))
      (λ f. over _ _ st (opened st s)))
  scheduled-ending st (thread t) at s =
      pick (Ending p n) (Machine.can_run st.numbers t)
      (λ e. no_more (BoundsHold p (Machine.switched st t at)) n
      (switched-at p fits t n _ _ _ _ (ltb-true t threads (both_left _ _ e)) st (current st) at (opened st s)))
      (λ e. over _ _ st (opened st s))

  pub thread-ending : (st : State) (whom : Whom) (at : ℕ) → Bounds.BoundsScheduling p st n →
      Ending p n (Machine.answered p st (run_thread whom at))
  unfolding Machine.answered
  thread-ending st whom at s = scheduled-ending st whom at s

  pub slot-ending : (st : State) (slot : ℕ) (offered : List ℕ) → slot < history → Bounds.BoundsReading p st n →
      Ending p n (Machine.answered p st (read_slot slot offered))
  unfolding Machine.answered
  slot-ending st slot offered h s =
      read_ending p fits (current st) n _ _ _ _ s.0.tally.runs s.1 st (active_row st) slot (Machine.mask_of 0 offered)
      (active_role p st) h
      (row-on-cell p (current st) (active_row st)) (opened st s.0)

  pub spurious-ending : (st : State) (bit : Bool) → Bounds.BoundsReading p st n → Ending p n (Machine.answered p st (take_bit bit))
  unfolding Machine.answered
  spurious-ending st bit s =
      bit-ending p fits (current st) n _ _ _ _ s.0.tally.runs s.1 st (active_row st) (cond bit 1 0) (active_role p st)
      (opened st s.0)
