-- Vectors and counts stay in range: the whole. Assumes nothing.
--     keeps                the machine of every program that fits keeps its bounds
--     accepted-fits        the program of an accepted table fits, with settings that are fine
--     raised-by-one        a raise is never held back
--     in-range             so every part of every vector, every count and every mark is in range, at every tick and at the end
use Prim.Native.Nat.{ℕ, ◌+◌, ◌≤◌, ◌<◌}
use mathlib.Core.List.{List}
use mathlib.Core.Bool.{true, and-eq-true_iff}
use mathlib.Core.Path.{◌≡◌}
use native.Mathlib.Omega.{arith}
use lib.ListN.{get_or, set}
use borrow.Author.Tests.{lt-ltb, leb-true}
use Rattle.rules.specs.Vector.{largest, raised}
use Rattle.rules.specs.Table.{header_fine, plains_of}
use Rattle.rules.specs.Explored.{Settings, settings_fine, program_of}
use Rattle.rules.specs.Event.{Question, which_thread, which_slot, which_bit, Pick, run_thread, read_slot, take_bit}
use Rattle.rules.specs.State.{State, Vector, vector, number, threads, plains, count}
use Rattle.rules.proofs.StateLaws.{InVectors}
use Rattle.rules.proofs.LimitLaws.{operations-most, operations-fit}
use Rattle.rules.proofs.NumberLaws.{five-has}
use Rattle.rules.proofs.MeasureAccepted.{header-within}
use Rattle.rules.proofs.SlotLaws.{live-most}
use Rattle.rules.specs.Machine.{Program, machine, answered}
use Rattle.kept.specs.Kept.{Fitting, Keeps}
use Rattle.kept.proofs.Answers.{slot-offered}
use Rattle.bounds.specs.Bounds.{ProgramFits, Counter, of_versions, of_choices, counter_of, nothing, rows_in, PartBounded, BoundsHold, BoundsAsked, BoundsLeft, InRange}
use Rattle.bounds.proofs.Stands.{over, opened, Ending}
use Rattle.bounds.proofs.Moves.{next-going, thread-ending, slot-ending, spurious-ending}
use Rattle.bounds.proofs.Start.{start-holds}

module _ (p : Program) (fits : ProgramFits p) where
  asked-over : (st : State) (n : ℕ) (q : Question) → BoundsAsked p st n q → BoundsLeft p st n
  asked-over st n (which_thread points initial standings) s = over _ _ st (opened st s)
  asked-over st n (which_slot m) s = over _ _ st (opened st s.0.0)
  asked-over st n which_bit s = over _ _ st (opened st s.0)

  goes-on : (st : State) (n : ℕ) (q : Question) (a : Pick) → BoundsAsked p st n q → Fitting q a → Ending p n (answered p st a)
  goes-on st n (which_thread points initial standings) (run_thread whom at) s f = thread-ending p fits n st whom at s
  goes-on st n (which_thread points initial standings) (read_slot slot values) s f = absurd f
  goes-on st n (which_thread points initial standings) (take_bit bit) s f = absurd f
  goes-on st n (which_slot m) (run_thread whom at) s f = absurd f
  goes-on st n (which_slot m) (read_slot slot values) s f =
      slot-ending p fits n st slot values (omega (arith, slot-offered m slot values f, s.1 f.offered f.is)) s.0
  goes-on st n (which_slot m) (take_bit bit) s f = absurd f
  goes-on st n which_bit (run_thread whom at) s f = absurd f
  goes-on st n which_bit (read_slot slot values) s f = absurd f
  goes-on st n which_bit (take_bit bit) s f = spurious-ending p fits n st bit s

  -- at every tick of every execution
  pub keeps : Keeps (machine p) (BoundsHold p) (BoundsAsked p) (BoundsLeft p)
  keeps = record {
    at-start = start-holds p fits;
    at_next = λ st n s. next-going p fits st n s;
    at-answer = goes-on;
    at-question = asked-over;
    at_tick = λ st n s. over _ _ st (opened st s);
  }

  part-below : (rows : ℕ → ℕ) (k : Counter) (u x : ℕ) → rows u ≤ p.operations → PartBounded rows nothing nothing k u x → x < largest
  part-below rows of_versions u x h q = omega (arith, fits.limited)
  part-below rows of_choices u x h q = omega (arith, fits.limited)

  pub in-range : (st : State) (n : ℕ) → BoundsLeft p st n → InRange st
  in-range st n s =
      let rows : (u : ℕ) → u < threads → rows_in st.numbers u ≤ p.operations =
      λ u b. omega (arith, five-has (rows_in st.numbers) u b, s.tally.rows, s.tally.limit) in
      record {
        parts = λ v h u b. part-below (rows_in st.numbers) (counter_of v) u _ (rows u b) (s.vectors.parts v h u b);
        counts = λ c h. omega (arith, s.tally.counts c h, s.tally.limit, fits.limited);
        live = λ c h. (live-most (number st.numbers (count c))).1;
        marks = s.sights.marked;
        yielded = λ u b. omega (arith, s.tally.yielded u b, rows u b, fits.limited);
        rows = λ u b. omega (arith, rows u b, fits.limited);
      }

-- where its part is below the largest number, a thread's part of a vector is one more
pub raised-by-one : (st : State) → InRange st → (v : Vector) → InVectors v → (t : ℕ) → t < threads →
    raised (vector st.clocks v) t ≡ set (vector st.clocks v) t (get_or (vector st.clocks v) t 0 + 1)
unfolding raised
raised-by-one st r v h t b = rw (lt-ltb (get_or (vector st.clocks v) t 0) largest (r.parts v h t b))

-- "up to four unsynchronised cells" (document 02, §5)
plains-within : (table : List ℕ) → header_fine table ≡ true → plains_of table ≤ plains
unfolding header_fine
plains-within table e = let f = simp and-eq-true_iff at e in omega (arith, leb-true)

-- "threads 1..5, cells 1..4", and the operation limit
pub accepted-fits : (table condition : List ℕ) (s : Settings) → header_fine table ≡ true → settings_fine s ≡ true →
    ProgramFits (program_of table condition s)
accepted-fits table condition s h f =
    let header = header-within table h in
    record { few = header.1; held = header.2; plain = plains-within table h; limited = omega (arith, operations-most s f, operations-fit) }
