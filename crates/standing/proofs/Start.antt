-- What stands at the start of each execution. Assumes nothing.
--     start-holds      it is what stands between ticks, with no entry in the trace
use Prim.Native.Nat.{ℕ, ◌≤◌, ◌<◌}
use mathlib.Core.Path.{◌≡◌}
use native.Mathlib.Omega.{arith}
use native.Mathlib.Decide.{dec_lt}
use Rattle.rules.specs.Table.{threads_of, cells_of}
use Rattle.rules.specs.State as State
use Rattle.rules.specs.State.{number, threads, cells, next_row, rows_of, phase, active_thread, rows_begun}
use Rattle.rules.specs.Machine.{Program, start, runnable}
use Rattle.rules.proofs.NumberLaws.{five-same}
use Rattle.rules.proofs.MeasureStart.{New, start-new, start-ready}
use Rattle.standing.specs.Standing.{ThreadIn, FactsLeft, FactsHold}

module _ (p : Program) (some : 1 ≤ threads_of p.table) (few : threads_of p.table ≤ threads) (held : cells_of p.table ≤ cells) where
  is-new : New (cells_of p.table) (threads_of p.table) (start p).numbers
  is-new = start-new p few held

  -- no thread is more than runnable, and no row has begun
  first : (i : ℕ) → i < threads → number (start p).numbers (State.state i) ≤ runnable
  first i h =
      elim (dec_lt i (threads_of p.table)) [
        | yes l ↦ omega (arith, is-new.started i h l)
        | no d ↦ omega (arith, is-new.missing i h (omega arith))
      ]

  rows : (i : ℕ) → i < threads →
      (number (start p).numbers (next_row i) ≡ 0) × (number (start p).numbers (phase i) ≡ 0) × (number (start p).numbers (rows_of i) ≡ 0)
  rows i h = (is-new.nothing (next_row i) (omega arith), is-new.nothing (phase i) (omega arith), is-new.nothing (rows_of i) (omega arith))

  none : number (start p).numbers rows_begun ≡ 0
  none = is-new.nothing rows_begun (omega arith)

  stands : (i : ℕ) → i < threads → ThreadIn p (start p).numbers i
  stands i h =
      rw ((rows i h).0, (rows i h).1)
      (record {
        present = λ l. omega (arith, is-new.started i h l);
        missing = λ l. is-new.missing i h l;
        phased = omega arith;
        row = omega arith;
        acts = λ e. absurd (omega arith);
        over = λ e. absurd (omega (arith, first i h));
        waits = λ e. absurd (omega (arith, first i h));
      })

  start-over : FactsLeft p (start p) 0
  start-over = record {
    whole = (start-ready p some few held).whole;
    runs = omega (arith, is-new.nothing active_thread (omega arith));
    each = stands;
    blocks = λ i h e. absurd (omega (arith, first i h));
    awake = λ i h d. omega (arith, first i h);
    counted = λ c h. omega (arith, is-new.stored c (omega arith) h);
    entries = omega (arith, none, five-same (λ (i : ℕ). 0) (λ (i : ℕ). number (start p).numbers (phase i)) (λ i h. (rows i h).1));
    shared = omega (arith, none, five-same (λ (i : ℕ). 0) (λ (i : ℕ). number (start p).numbers (rows_of i)) (λ i h. (rows i h).2));
    limited = omega (arith, none);
  }

  pub start-holds : FactsHold p (start p) 0
  start-holds = record { over = start-over; ready = (start-ready p some few held).runs }
