-- A scheduling: what it says of the threads, that it can be answered, and how it goes on with the thread that is chosen. Assumes
-- nothing.
--     is-answerable        the initial thread can run, and there is none only where no thread is runnable
--     thread-after         the chosen thread runs; with none the execution ends or is in a deadlock
use Prim.Native.Nat.{ℕ, zero, suc, ◌+◌, ◌≤◌, ◌<◌}
use mathlib.Core.List.{List, [], map}
use mathlib.Core.Bool.{Bool, true, false, cond, ◌&&◌, ◌||◌, true≢false}
use mathlib.Core.Path.{◌≡◌, refl, ap, sym, ◌∙◌}
use native.Mathlib.Omega.{arith}
use native.Mathlib.Decide.{ℕ_discrete, dec_lt}
use lib.Dec.{ltb}
use lib.ListN.{get_or}
use borrow.Author.Tests.{ltb-true, lt-ltb}
use Rattle.rules.specs.Vector.{Whom, nobody, thread}
use Rattle.rules.specs.Table.{threads_of, cells_of}
use Rattle.rules.specs.Event as Event
use Rattle.rules.specs.Event.{Standing, cannot_run, other, moves}
use Rattle.rules.specs.State as State
use Rattle.rules.specs.State.{State, Numbers, number, with_number, threads, cells, operates_on, phase, active_thread, access_branch, non_load_branch}
use Rattle.rules.specs.Machine as Machine
use Rattle.rules.specs.Machine.{Program, is_in, some_can_run, fewest_from, yields_less, every_thread, absent, runnable, yielded, no_operation}
use Rattle.rules.proofs.NumberLaws.{five-has}
use Rattle.rules.proofs.Measure.{to_active}
use Rattle.rules.proofs.MeasureRows.{pick, both_left, both_right}
use Rattle.rules.proofs.AccessLaws.{access-kept}
use Rattle.rules.proofs.MeasureTicks.{switched-is, can-act}
use Rattle.kept.specs.Kept.{FittingThread, FineScheduling}
use Rattle.standing.specs.Standing.{FactsLeft, Schedules}
use Rattle.standing.proofs.Facts.{acts-so, Facts, keep, awake-facts, opened, holding}
use Rattle.standing.proofs.Steps.{After, going, ending, stops_at}

-- What a scheduling says of the threads
module _ (numbers : Numbers) where
  abbrev standings : List Standing
  standings = map (Machine.standing numbers) every_thread

  standing-at : (t : ℕ) → t < threads → get_or standings t cannot_run ≡ Machine.standing numbers t
  standing-at zero h = refl
  standing-at (suc zero) h = refl
  standing-at (suc (suc zero)) h = refl
  standing-at (suc (suc (suc zero))) h = refl
  standing-at (suc (suc (suc (suc zero)))) h = refl
  standing-at (suc (suc (suc (suc (suc t))))) h = absurd (omega arith)

  standing-past : (t : ℕ) → threads ≤ t → get_or standings t cannot_run ≡ cannot_run
  standing-past zero h = absurd (omega arith)
  standing-past (suc zero) h = absurd (omega arith)
  standing-past (suc (suc zero)) h = absurd (omega arith)
  standing-past (suc (suc (suc zero))) h = absurd (omega arith)
  standing-past (suc (suc (suc (suc zero)))) h = absurd (omega arith)
  standing-past (suc (suc (suc (suc (suc t))))) h = refl

  -- a thread that does not stand as one that cannot run can
  stands-can : (t : ℕ) → (Machine.standing numbers t ≡ cannot_run → ⊥) → (is_in numbers runnable t || is_in numbers yielded t) ≡ true
  unfolding Machine.standing
  stands-can t d = by (is_in numbers yielded t) (is_in numbers runnable t) d
    where
      by : (x y : Bool) → (cond x Event.yielded (cond y other cannot_run) ≡ cannot_run → ⊥) → (y || x) ≡ true
      by true true d = refl
      by true false d = refl
      by false true d = refl
      by false false d = absurd (d refl)

  stands-cannot : (t : ℕ) → Machine.standing numbers t ≡ cannot_run → (is_in numbers runnable t || is_in numbers yielded t) ≡ false
  unfolding Machine.standing
  stands-cannot t e = by (is_in numbers yielded t) (is_in numbers runnable t) e
    where
      by : (x y : Bool) → cond x Event.yielded (cond y other cannot_run) ≡ cannot_run → (y || x) ≡ false
      by true true e = cc
      by true false e = cc
      by false true e = cc
      by false false e = refl

  stands-runnable : (t : ℕ) → is_in numbers runnable t ≡ true → Machine.standing numbers t ≡ cannot_run → ⊥
  stands-runnable t r e = by (is_in numbers yielded t) (rw r at (stands-cannot t e))
    where
      by : (x : Bool) → (true || x) ≡ false → ⊥
      by x e = true≢false e

  stands-other : (t : ℕ) → Machine.standing numbers t ≡ other → is_in numbers runnable t ≡ true
  unfolding Machine.standing
  stands-other t e = by (is_in numbers yielded t) (is_in numbers runnable t) e
    where
      by : (x y : Bool) → cond x Event.yielded (cond y other cannot_run) ≡ other → y ≡ true
      by true true e = refl
      by true false e = cc
      by false true e = refl
      by false false e = cc

  none-can : (n t : ℕ) → t + n ≤ threads → ((i : ℕ) → i < threads → (is_in numbers runnable i || is_in numbers yielded i) ≡ false) →
      some_can_run numbers n t ≡ false
  unfolding some_can_run
  none-can zero t l h = refl
  none-can (suc n) t l h = by (ltb t threads) (h t (omega arith)) (none-can n (t + 1) (omega arith) h)
    where
      by : (x : Bool) {y z : Bool} → y ≡ false → z ≡ false → (x && y || z) ≡ false
      by true e f = rw (e, f) refl
      by false e f = f

  -- "the runnable thread with fewest yields, lowest number on a tie"
  abbrev Runs : Whom → Type 0
  Runs nobody = Unit
  Runs (thread t) = (t < threads) × (is_in numbers runnable t ≡ true)

  fewest-runs : (best : Whom) (n i : ℕ) → i + n ≤ threads → Runs best → Runs (fewest_from numbers best n i)
  unfolding fewest_from
  fewest-runs best zero i h r = r
  fewest-runs best (suc n) i h r =
      fewest-runs (cond (is_in numbers runnable i && yields_less numbers i best) (thread i) best) n (i + 1) (omega arith)
      (pick Runs (is_in numbers runnable i && yields_less numbers i best) (λ e. (omega arith, both_left _ _ e)) (λ e. r))

  -- it is nobody only where none is runnable
  fewest-none : (best : Whom) (n i : ℕ) → fewest_from numbers best n i ≡ nobody →
      (best ≡ nobody) × ((j : ℕ) → i ≤ j → j < i + n → is_in numbers runnable j ≡ false)
  unfolding fewest_from
  fewest-none best zero i e = (e, λ j h l. absurd (omega arith))
  fewest-none best (suc n) i e =
      let more = fewest-none (cond (is_in numbers runnable i && yields_less numbers i best) (thread i) best) n (i + 1) e in
      let here = by (is_in numbers runnable i) best more.0 in (
        here.1,
        λ j h l. elim (ℕ_discrete i j) [
          | yes q ↦ ap (is_in numbers runnable) (sym q) ∙ here.0
          | no d ↦ more.1 j (omega arith) (omega arith)
        ],
      )
    where
      by : (b : Bool) (w : Whom) → cond (b && yields_less numbers i w) (thread i) w ≡ nobody → (b ≡ false) × (w ≡ nobody)
      by true nobody e = (cc, refl)
      by true (thread t) e = absurd (no (ltb (number numbers (State.yields i)) (number numbers (State.yields t))) e)
        where
          no : (c : Bool) → cond c (thread i) (thread t) ≡ nobody → ⊥
          no true e = let z : ◌≡◌ {A = ℕ} 0 1 = cc in omega arith
          no false e = let z : ◌≡◌ {A = ℕ} 0 1 = cc in omega arith
      by false nobody e = (refl, refl)
      by false (thread t) e = (refl, e)

  -- "(b) initial is the current thread if runnable, else .."
  initial-runs : Runs (Machine.initial numbers)
  unfolding Machine.initial
  initial-runs =
      let now = number numbers active_thread in
      pick Runs (ltb now threads && is_in numbers runnable now)
      (λ e. (ltb-true _ _ (both_left _ _ e), both_right (ltb now threads) _ e))
      (λ e. fewest-runs nobody threads 0 (omega arith) tt)

  initial-none : Machine.initial numbers ≡ nobody → (t : ℕ) → t < threads → is_in numbers runnable t ≡ false
  unfolding Machine.initial
  initial-none e t h =
      let now = number numbers active_thread in
      by (ltb now threads && is_in numbers runnable now) e
    where
      by : (b : Bool) → cond b (thread (number numbers active_thread)) (fewest_from numbers nobody threads 0) ≡ nobody → is_in numbers runnable t ≡ false
      by true e = cc
      by false e = (fewest-none nobody threads 0 e).1 t (omega arith) (omega arith)

  runs_of : (w : Whom) (t : ℕ) → w ≡ thread t → Runs w → (t < threads) × (is_in numbers runnable t ≡ true)
  runs_of w t e r = rw e at r

module _ (p : Program) where
  -- the initial thread is one that can run; there is none only where the others that can have yielded
  pub is-answerable : (st : State) (n : ℕ) (first : Whom) (stand : List Standing) → Schedules p st n first stand →
      FineScheduling first stand
  is-answerable st n first stand h =
      let a = st.numbers in
      rw (h.is_first, h.stand)
      (record {
        five = refl;
        can = λ t e. let r = runs_of a (Machine.initial a) t e (initial-runs a) in
            (r.0, λ f. stands-runnable a t r.1 (sym (standing-at a t r.0) ∙ f));
        none = λ e t f. elim (dec_lt t threads) [
          | yes l ↦ true≢false (sym (stands-other a t (sym (standing-at a t l) ∙ f)) ∙ initial-none a e t l)
          | no d ↦ let z : cannot_run ≡ other = sym (standing-past a t (omega arith)) ∙ f in
              let w : ◌≡◌ {A = ℕ} 0 1 = cc in omega arith
        ];
      })

-- How a scheduling goes on

-- what stands of the others where the chosen thread's access is recorded, and the others are awake
module _ (p : Program) (held : cells_of p.table ≤ cells) (few : threads_of p.table ≤ threads) (t : ℕ) (below : t < threads) where
  switched-facts : {k q r : ℕ} (st : State) (at : ℕ) → number (with_number st.numbers active_thread t) (operates_on t) < cells →
      Facts p t k q r 0 (with_number st.numbers active_thread t) → Facts p t k q r threads (Machine.switched st t at).numbers
  unfolding Machine.switched Machine.others_awake
  switched-facts st at h facts =
      let now = Machine.with_numbers st (with_number st.numbers active_thread t) in
      awake-facts p held few t below 5 0 (Machine.access_made now t at).numbers (omega arith)
      (access-kept (Facts p t _ _ _ 0) (λ a c at l f. keep p held few t below f (access_branch c) at (omega arith))
      (λ a c at l f. keep p held few t below f (non_load_branch c) at (omega arith)) now t at h facts)

  module _ (st : State) (n : ℕ) (over : FactsLeft p st n) where
    abbrev a : Numbers
    a = st.numbers

    runs_after : (at : ℕ) → Machine.can_run a t ≡ true → After p n (moves (Machine.switched st t at) [])
    runs_after at e =
        let can = can-act a t e in
        let own = over.each t below in
        let within : t < threads_of p.table =
        elim (dec_lt t (threads_of p.table)) [
          | yes h ↦ h
          | no d ↦ absurd (omega (arith, acts-so can, own.missing (omega arith)))
        ] in
        let now = to_active a t below over.whole in
        let facts = keep p held few t below (opened p held few t below st n 0 (λ d. absurd (d refl)) over) active_thread t (omega arith) in
        going
        (holding p held few t below (Machine.switched st t at) (n + 0) within can (switched-is below st at now)
        (switched-facts st at (now.whole.on_cell t below) facts) own
        (omega (arith, over.entries, over.limited, five-has (λ (i : ℕ). number a (phase i)) t below)))

module _ (p : Program) (held : cells_of p.table ≤ cells) (few : threads_of p.table ≤ threads) (st : State) (n : ℕ)
    (first : Whom) (stand : List Standing) (asked : Schedules p st n first stand) where
  -- "(d) the branch chooses. None: if every present thread has ended, the execution ends, else 10."
  scheduled-after : (whom : Whom) (at : ℕ) → FittingThread first stand whom → After p n (Machine.scheduled st whom at)
  unfolding Machine.scheduled
  scheduled-after nobody at fit =
      let a = st.numbers in
      let none : (i : ℕ) → i < threads → (is_in a runnable i || is_in a yielded i) ≡ false =
      λ i h. stands-cannot a i (sym (standing-at a i h) ∙ rw asked.stand at (fit.1 i)) in
      pick (After p n) (Machine.all_over st.numbers threads 0) (λ e. ending asked.over)
      (λ e. rw (none-can a threads 0 (omega arith) none) (stops_at st Event.deadlock (omega arith) asked.over))
  scheduled-after (thread t) at fit =
      let a = st.numbers in
      let f = rw asked.stand at fit in
      let below : t < threads = f.0 in
      let can : (is_in a runnable t || is_in a yielded t) ≡ true = stands-can a t (λ e. f.1 (standing-at a t below ∙ e)) in
      rw (lt-ltb t threads below, can) (runs_after p held few t below st n asked.over at (rw (lt-ltb t threads below, can) refl))

  pub thread-after : (whom : Whom) (at : ℕ) → FittingThread first stand whom → After p n (Machine.answered p st (Event.run_thread whom at))
  unfolding Machine.answered
  thread-after whom at fit = scheduled-after whom at fit
