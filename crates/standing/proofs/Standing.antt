-- For an accepted table the machine keeps what stands, and never comes to the impossible outcome by itself. Assumes nothing.
--     standing-keeps       it keeps what stands
--     standing-never       and no move of its own is the impossible one, where every match offers some store unless orders are equal
use Prim.Native.Nat.{ℕ, ◌≤◌}
use mathlib.Core.List.{List}
use mathlib.Core.Bool.{Bool, true}
use mathlib.Core.Path.{◌≡◌, subst}
use native.Mathlib.Omega.{arith}
use Rattle.rules.specs.Vector.{largest}
use Rattle.rules.specs.Table.{judged, good, threads_of, cells_of}
use Rattle.rules.specs.Event.{Entry, Question, which_thread, which_slot, which_bit, Pick, run_thread, read_slot, take_bit, Move, asks}
use Rattle.rules.specs.State.{State, threads, cells}
use Rattle.rules.specs.Machine.{Program, machine, next, answered}
use Rattle.rules.specs.Explored.{Settings, settings_fine, program_of, limits_of}
use Rattle.rules.specs.Measure.{measure}
use Rattle.rules.proofs.MeasureAccepted.{good-header, header-within, operations-within}
use Rattle.rules.proofs.MeasureStart.{start-measure}
use Rattle.rules.proofs.MeasureSteps as MeasureSteps
use Rattle.rules.proofs.MeasureSteps.{Lower, lowered}
use Rattle.rules.proofs.MeasureTicks.{next-lower, thread-lower, slot-lower, spurious-lower}
use Rattle.kept.specs.Kept.{Fitting, OfNext, OfAnswer, Keeps, Possible, Answerable, Falls, Never}
use Rattle.kept.proofs.Held.{answer-next}
use Rattle.standing.specs.Standing.{FactsLeft, FactsHold, FactsAsked, SomeOffered}
use Rattle.standing.proofs.Steps.{After, going, stopping, ending, Good, moving, asking}
use Rattle.standing.proofs.Ticks.{next-good}
use Rattle.standing.proofs.Schedules.{is-answerable, thread-after}
use Rattle.standing.proofs.Slots.{slot-answerable, slot-after, bit-after}
use Rattle.standing.proofs.Start.{start-holds}

-- What is known of a move, in the words of crate kept
module _ (p : Program) (n : ℕ) where
  after-keeps : {m : Move State} → After p n m → OfAnswer (machine p) (FactsHold p) (FactsLeft p) n m
  after-keeps (going h) = h
  after-keeps (stopping h f) = h
  after-keeps (ending h) = h

  after-possible : {m : Move State} → After p n m → Possible m
  after-possible (going h) = tt
  after-possible (stopping h f) = f
  after-possible (ending h) = tt

  good-keeps : {m : Move State} → Good p n m → OfNext (machine p) (FactsHold p) (FactsAsked p) (FactsLeft p) n m
  good-keeps {m} (moving h) = answer-next (machine p) (FactsHold p) (FactsAsked p) (FactsLeft p) n m (after-keeps h)
  good-keeps (asking h) = h

  good-possible : {m : Move State} → Good p n m → Possible m
  good-possible (moving h) = after-possible h
  good-possible (asking h) = tt

-- The ticks that are left, by the definition's measure
module _ (p : Program) (l : ℕ) where
  lower-falls : {m : Move State} → Lower p l m → Falls (measure p) l m
  lower-falls (lowered r low) = low
  lower-falls (MeasureSteps.asking h) = tt
  lower-falls MeasureSteps.stopping = tt
  lower-falls MeasureSteps.ending = tt

  lower-asks : {st : State} {es : List Entry} {explores : Bool} {q : Question} → Lower p l (asks st es explores q) →
      MeasureSteps.Asked p l st q
  lower-asks (MeasureSteps.asking h) = h

  answer-lower : (st : State) (q : Question) (a : Pick) → MeasureSteps.Asked p l st q → Fitting q a → Lower p l (answered p st a)
  answer-lower st (which_thread points first standings) (run_thread whom at) h fit = thread-lower p l st whom at h
  answer-lower st (which_slot m) (read_slot slot values) h fit = slot-lower p l st slot values h
  answer-lower st which_bit (take_bit bit) h fit = spurious-lower p l st bit h
  answer-lower st (which_thread points first standings) (read_slot slot values) h fit = absurd fit
  answer-lower st (which_thread points first standings) (take_bit bit) h fit = absurd fit
  answer-lower st (which_slot m) (run_thread whom at) h fit = absurd fit
  answer-lower st (which_slot m) (take_bit bit) h fit = absurd fit
  answer-lower st which_bit (run_thread whom at) h fit = absurd fit
  answer-lower st which_bit (read_slot slot values) h fit = absurd fit

module _ (table condition : List ℕ) (s : Settings) (accepted : judged table ≡ good) (fine : settings_fine s ≡ true) where
  abbrev p : Program
  p = program_of table condition s

  -- "threads 1..5, cells 1..4"
  within : (1 ≤ threads_of table) × (threads_of table ≤ threads) × (cells_of table ≤ cells)
  within = header-within table (good-header table accepted)

  limited : s.operations ≤ largest
  limited = operations-within s fine

  nexts : (st : State) (n : ℕ) → FactsHold p st n → Good p n (next p st).move
  nexts st n h = next-good p within.2 within.1 limited st n h accepted

  lowers : (st : State) (n : ℕ) → FactsHold p st n → Lower p (measure p st) (next p st).move
  lowers st n h =
      next-lower p limited st (record { whole = h.over.whole; below = omega (arith, h.over.runs, within); runs = h.ready })

  answers : (st : State) (n : ℕ) (q : Question) (a : Pick) → FactsAsked p st n q → Fitting q a → After p n (answered p st a)
  answers st n (which_thread points first standings) (run_thread whom at) h fit =
      thread-after p within.2 within.1 st n first standings h whom at fit
  answers st n (which_slot m) (read_slot slot values) h fit =
      slot-after p within.2 within.1 accepted st n h.holds h.to_act m h.reading slot values fit
  answers st n which_bit (take_bit bit) h fit =
      bit-after p within.2 within.1 accepted st n h.holds h.to_act h.register h.is_spurious bit
  answers st n (which_thread points first standings) (read_slot slot values) h fit = absurd fit
  answers st n (which_thread points first standings) (take_bit bit) h fit = absurd fit
  answers st n (which_slot m) (run_thread whom at) h fit = absurd fit
  answers st n (which_slot m) (take_bit bit) h fit = absurd fit
  answers st n which_bit (run_thread whom at) h fit = absurd fit
  answers st n which_bit (read_slot slot values) h fit = absurd fit

  asked-over : (st : State) (n : ℕ) (q : Question) → FactsAsked p st n q → FactsLeft p st n
  asked-over st n (which_thread points first standings) h = h.over
  asked-over st n (which_slot m) h = h.holds.over
  asked-over st n which_bit h = h.holds.over

  answerable : SomeOffered → (st : State) (n : ℕ) (q : Question) → FactsAsked p st n q → Answerable q
  answerable some st n (which_thread points first standings) h = is-answerable p st n first standings h
  answerable some st n (which_slot m) h = slot-answerable p within.2 within.1 accepted st n h.holds h.to_act some m h.reading
  answerable some st n which_bit h = tt

  pub standing-keeps : Keeps (machine p) (FactsHold p) (FactsAsked p) (FactsLeft p)
  standing-keeps = record {
    at-start = start-holds p within.0 within.1 within.2;
    at_next = λ st n h. good-keeps p n (nexts st n h);
    at-answer = λ st n q a h fit. after-keeps p n (answers st n q a h fit);
    at-question = asked-over;
    at_tick = λ st n h. h.over;
  }

  -- where every match offers some store, unless orders are equal
  pub standing-never : SomeOffered → Never (machine p) (limits_of s) (FactsHold p) (FactsAsked p) (FactsLeft p)
  standing-never some = record {
    keeps = standing-keeps;
    room = λ st n h. omega (arith, h.entries, h.limited);
    next-possible = λ st n h. good-possible p n (nexts st n h);
    question = answerable some;
    answer-possible = λ st n q a h fit. after-possible p n (answers st n q a h fit);
    left = measure p;
    enough = omega (arith, start-measure p within.0 within.1 within.2);
    next-falls = λ st n h. lower-falls p (measure p st) (lowers st n h);
    answer-falls = λ st n u es explores q a h e fit.
        let l = measure p st in
        lower-falls p l (answer-lower p l u q a (lower-asks p l (subst (Lower p l) e (lowers st n h))) fit);
  }
