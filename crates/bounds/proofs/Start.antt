-- The start of each execution is in bounds. Assumes nothing.
--     start-holds          what is kept between ticks holds there
use Prim.Native.Nat.{ℕ, zero, suc, ◌+◌, ◌≤◌, ◌<◌}
use mathlib.Core.List.{List, []}
use mathlib.Core.Bool.{Bool}
use mathlib.Core.Path.{◌≡◌, refl, ap}
use mathlib.Core.Logic.{◌≢◌, ◌⊎◌, inl, inr}
use native.Mathlib.Omega.{arith}
use native.Mathlib.Decide.{ℕ_discrete, dec_lt}
use lib.Dec.{eqb}
use lib.ListN.{get_or, set, replicate, length-replicate, get_or-replicate}
use lib.Seq.{get_or-set_same}
use borrow.Author.Tests.{eqb-true, eqb-false}
use Rattle.rules.specs.Vector.{zeros}
use Rattle.rules.specs.Seen.{unseens}
use Rattle.rules.specs.Table.{threads_of, cells_of, plains_of}
use Rattle.rules.specs.State.{State, Vector, vector, with_vector, vector_at, number, vectors_held, threads, cells, plains, history, none}
use Rattle.rules.specs.State.{causality, mutated, rows_of, yields, last_yield, operation, phase, count, active_thread, rows_begun}
use Rattle.rules.specs.Cell.{version, join_into, with_clocks}
use Rattle.rules.specs.Plain.{plain_write_done}
use Rattle.rules.specs.Machine
use Rattle.rules.specs.Machine.{Program, start}
use Rattle.rules.proofs.StateLaws.{InVectors, vector_at-within, vector-same}
use Rattle.rules.proofs.NumberLaws.{five-same}
use Rattle.rules.proofs.MeasureStart.{New, start-new}
use Rattle.rules.proofs.MeasureRows.{pick}
use Rattle.bounds.specs.Bounds.{ProgramFits, Counter, of_versions, of_choices, counter_of, given, nothing, rows_in, PartBounded, Or, Sights, NumbersBounded, BoundsHold}
use Rattle.bounds.proofs.Parts.{Fit, set-fit, zeros-fit, Since, put, join-into, eased}
use Rattle.bounds.proofs.Marks.{Row, unseen-row, later}
use Rattle.bounds.proofs.Accesses.{Sound, with-clocks, stored-sound, plain-write-tracked}
use Rattle.bounds.proofs.Numbers.{given-own, given-other, of-given, Links}
use Rattle.bounds.proofs.Stands.{At, holds}

-- while cells are made, thread 0's version is 1, and every other part is 0
first : ℕ → ℕ
first = given 0 1 nothing

abbrev Making : Counter → ℕ → ℕ → Type 0
Making of_versions u x = x ≤ first u
Making of_choices u x = x ≤ 0

abbrev Started : Counter → ℕ → ℕ → Type 0
Started = PartBounded nothing nothing nothing

first-own : first 0 ≡ 1
unfolding first
first-own = given-own 0 1 nothing

first-other : (u : ℕ) → u ≢ 0 → first u ≡ 0
unfolding first
first-other u d = given-other 0 1 nothing u d

first-most : (u : ℕ) → first u ≤ 1
unfolding first
first-most u = of-given (λ (x : ℕ). x ≤ 1) 0 1 nothing u (λ e. omega arith) (λ d. omega arith)

zeros-making : (k : Counter) → Fit (Making k) (zeros threads)
zeros-making of_versions = zeros-fit (Making of_versions) (λ u b. omega arith)
zeros-making of_choices = zeros-fit (Making of_choices) (λ u b. omega arith)

-- The vectors

blank-parts : (explores : Bool) (v : Vector) → InVectors v → vector (Machine.blank explores).clocks v ≡ zeros threads
unfolding Machine.blank
blank-parts explores v h = get_or-replicate {A = List ℕ} vectors_held (vector_at v) (zeros threads) [] (vector_at-within v h)

blank-since : (explores : Bool) → Since Making nothing (Machine.blank explores).clocks
unfolding Machine.blank
blank-since explores = record {
  vectors = record {
    held = length-replicate {A = List ℕ} vectors_held (zeros threads);
    five = λ v h. rw (blank-parts explores v h) (zeros-making of_versions).five;
    parts = λ v h u b. rw (blank-parts explores v h) ((zeros-making (counter_of v)).each u b);
  };
  since = λ u b. omega arith;
}

blank-sights : (explores : Bool) (most : ℕ → ℕ) → Sights most (Machine.blank explores).marks
unfolding Machine.blank
blank-sights explores most =
    let rows : (c : ℕ) → c < cells → get_or (replicate cells (replicate history (unseens threads))) c [] ≡ replicate history
    (unseens threads) =
    λ c h. get_or-replicate {A = List (List ℕ)} cells c (replicate history (unseens threads)) [] h in
    let row : (c slot : ℕ) → c < cells → slot < history → Row most
    (get_or (get_or (replicate cells (replicate history (unseens threads))) c []) slot []) =
    λ c slot h k. rw (rows c h, get_or-replicate {A = List ℕ} history slot (unseens threads) [] k) unseen-row in
    record {
      held = length-replicate {A = List (List ℕ)} cells (replicate history (unseens threads));
      seven = λ c h. rw (rows c h) (length-replicate {A = List ℕ} history (unseens threads));
      five = λ c slot h k. (row c slot h k).five;
      marked = λ c slot u h k b. (row c slot h k).each u b;
    }

-- "Thread 0 is (1,0,0,0,0) while cells are made"
making-sound : (explores : Bool) → Sound Making first (Machine.thread0_making (Machine.blank explores))
making-sound explores =
    let st = Machine.blank explores in
    let parts = set (zeros threads) 0 1 in
    let after = put st.clocks (causality 0) parts (omega arith) (blank-since explores)
    (set-fit (Making of_versions) (zeros threads) 0 1 (zeros-making of_versions) (omega (arith, first-own))) (λ u b e. omega arith) in
    let own : version (with_vector st.clocks (causality 0) parts) 0 ≡ 1 =
    ap (λ (xs : List ℕ). get_or xs 0 0) (vector-same st.clocks (causality 0) parts
    (omega (arith, (blank-since explores).vectors.held))) in
    record {
      clocks = record {
        vectors = after.vectors;
        since = λ u b. elim (ℕ_discrete u 0) [
          | yes e ↦ rw e (omega (arith, own, first-own))
          | no d ↦ omega (arith, first-other u d)
        ];
      };
      sights = blank-sights explores _;
    }

-- "cells take a Release store of their start value"
made-sound : (table : List ℕ) (n c : ℕ) (st : State) → c + n ≤ cells → Sound Making first st →
    Sound Making first (Machine.cells_made table st n c)
unfolding Machine.cells_made
made-sound table zero c st h s = s
made-sound table (suc n) c st h s =
    let st' = with_clocks st (join_into st.clocks (mutated c) (causality 0)) in
    made-sound table n (c + 1) (Machine.cell_made table st c) (omega arith)
    (stored-sound 0 c (omega arith) (omega arith) st' _ _ 1 (zeros-making of_versions)
    (with-clocks st _ s (λ k. join-into st.clocks (mutated c) (causality 0) (omega arith) (omega arith) refl k)))

-- "thread 0 makes them as writes after the atomic cells"
plains-sound : (table : List ℕ) (n c : ℕ) (st : State) → c + n ≤ plains → Sound Making first st →
    Sound Making first (Machine.plains_made table st n c)
unfolding Machine.plains_made plain_write_done
plains-sound table zero c st h s = s
plains-sound table (suc n) c st h s =
    plains-sound table n (c + 1) (Machine.plain_made table st c) (omega arith)
    (with-clocks st _ s (plain-write-tracked 0 (omega arith) c (omega arith) st.clocks))

-- "then thread 0 is (2,0,0,0,0), each other thread has 1 at place 0 and 1 at its own"
started-fit : (t : ℕ) → Fit (Started of_versions) (Machine.first_causality t)
started-fit t =
    let zeros-fine = zeros-fit (Started of_versions) (λ u b. omega arith) in
    pick (Fit (Started of_versions)) (eqb t 0) (λ e. set-fit (Started of_versions) (zeros threads) 0 2 zeros-fine (omega arith))
    (λ e. set-fit (Started of_versions) _ t 1 (set-fit (Started of_versions) (zeros threads) 0 1 zeros-fine (omega arith))
    (omega arith))

started-own : (t : ℕ) → first t ≤ get_or (Machine.first_causality t) t 0
started-own t =
    pick (λ (xs : List ℕ). first t ≤ get_or xs t 0) (eqb t 0)
    (λ e. let q : t ≡ 0 = eqb-true t 0 e in rw q (omega (arith, first-own, get_or-set_same (zeros threads) 0 2 0 (omega arith))))
    (λ e. omega (arith, first-other t (eqb-false t 0 e)))

started-since : (n t : ℕ) (st : State) → t + n ≤ threads → Since Started first st.clocks →
    Since Started first (Machine.threads_started st n t).clocks
unfolding Machine.threads_started
started-since zero t st h s = s
started-since (suc n) t st h s =
    started-since n (t + 1) (Machine.thread_started st t) (omega arith)
    (put st.clocks (causality t) (Machine.first_causality t) (omega arith) s (started-fit t)
    (λ u b e. let q : u ≡ t = omega arith in rw q (started-own t)))

started-marks : (n t : ℕ) (st : State) → (Machine.threads_started st n t).marks ≡ st.marks
unfolding Machine.threads_started
started-marks zero t st = refl
started-marks (suc n) t st = started-marks n (t + 1) (Machine.thread_started st t)

-- The numbers

module _ (p : Program) (fits : ProgramFits p) where
  is-new : New (cells_of p.table) (threads_of p.table) (start p).numbers
  is-new = start-new p fits.few fits.held

  begun-none : number (start p).numbers rows_begun ≡ 0
  begun-none = is-new.nothing rows_begun (omega arith)

  rows_none : (u : ℕ) → u < threads → number (start p).numbers (rows_of u) ≡ 0
  rows_none u h = is-new.nothing (rows_of u) (omega arith)

  -- each cell takes one store
  one_store : (c : ℕ) → c < cells → number (start p).numbers (count c) ≤ 1
  one_store c h =
      elim (dec_lt c (cells_of p.table)) [
        | yes l ↦ omega (arith, is-new.stored c h l)
        | no d ↦ omega (arith, is-new.unmade c h (omega arith))
      ]

  last_none : (u : ℕ) → (number (start p).numbers (last_yield u) ≡ none) ⊎ (number (start p).numbers (last_yield u) ≡ 0) →
      Or none (first u) (number (start p).numbers (last_yield u))
  last_none u (inl e) = inl e
  last_none u (inr e) = inr (omega arith)

  start-tally : NumbersBounded p 0 nothing first (start p).numbers
  start-tally = record {
    held = is-new.long;
    runs = omega (arith, is-new.nothing active_thread (omega arith));
    rows = omega (arith, begun-none, five-same nothing (rows_in (start p).numbers) rows_none);
    limit = omega (arith, begun-none);
    entries = omega (arith, begun-none);
    counts = λ c h. omega (arith, one_store c h);
    yielded = λ u h. omega (arith, is-new.nothing (yields u) (omega arith));
    lasts = λ u h. last_none u (is-new.lasts u h);
  }

  start-links : Links 0 nothing nothing nothing (start p).numbers
  start-links = record {
    held = is-new.long;
    runs = is-new.nothing active_thread (omega arith);
    begun_rows = rows_none;
    owes = λ u h. rw (is-new.nothing (phase u) (omega arith)) refl;
    pends = λ u h. rw (is-new.nothing (operation u) (omega arith)) (omega arith);
  }

  -- The whole

  made : State
  made =
      Machine.plains_made p.table
      (Machine.cells_made p.table (Machine.thread0_making (Machine.blank p.exploring)) (cells_of p.table) 0)
      (plains_of p.table) 0

  made_at : Sound Making first made
  unfolding made
  made_at =
      plains-sound p.table (plains_of p.table) 0 _ (omega (arith, fits.plain))
      (made-sound p.table (cells_of p.table) 0 _ (omega (arith, fits.held)) (making-sound p.exploring))

  started-part : (k : Counter) (u x : ℕ) → u < threads → Making k u x → Started k u x
  started-part of_versions u x b h = omega (arith, first-most u)
  started-part of_choices u x b h = omega arith

  start-sound : Sound Started first (start p)
  unfolding start made
  start-sound =
      let clocks = started-since (threads_of p.table) 0 made (omega (arith, fits.few))
      (record { vectors = eased made.clocks started-part made_at.clocks.vectors; since = made_at.clocks.since }) in
      record {
        clocks = clocks;
        sights = rw (started-marks (threads_of p.table) 0 made) (later made.marks
            (λ u b. omega (arith, made_at.clocks.vectors.parts (causality u) b u b, clocks.since u b)) made_at.sights);
      }

  pub start-holds : BoundsHold p (start p) 0
  start-holds =
      let at : At p 0 0 nothing nothing nothing nothing first Started (start p) =
      record { sound = start-sound; tally = start-tally; links = start-links } in
      holds (start p) at (λ u b. omega arith) (λ u b. of-given (λ (x : ℕ). x ≤ 0) 0 0 nothing u (λ e. omega arith)
      (λ d. omega arith))
