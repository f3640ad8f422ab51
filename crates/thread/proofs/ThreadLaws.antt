-- The laws of threads' states. Assumes nothing.
--     one_left, none_left             of n turns, k are done
--     for-on, for-end                 what is done for the threads from one on: one of them, and none left
--     run_none, run-some              whether a branch may choose a thread
--     awake-.., freed-..              one turn of waking the others that have yielded, and of freeing the joins on a thread
--     over-..                         the walk that asks whether all have ended
--     some_of_five                    whether some can run
use Prim.Native.Nat.{ℕ, suc, ◌+◌, ◌-◌, ◌≤◌, ◌<◌}
use mathlib.Core.Bool.{Bool, true, false, not, ◌||◌}
use mathlib.Core.Path.{◌≡◌, refl}
use mathlib.Core.Logic.{◌≢◌}
use native.Mathlib.Omega.{arith}
use lib.Dec.{eqb}
use borrow.Author.Tests.{lt-ltb, le-ltb, ne_eqb, not-true, not-false}
use Rattle.std.specs.List.{list_any, range_with_len}
use Rattle.rules.specs.State.{Clocks, Marks, Values, Numbers, number, with_number, operation, yields, last_yield, awaits}
use Rattle.rules.specs.State as rules
use Rattle.rules.specs.Machine.{for_threads, is_in, absent, runnable, blocked, yielded, ended, awake, freed, can_run, all_over, some_can_run, no_operation, thread_ended, yield_done}
use Rattle.rules.specs.Cell.{version}
use Rattle.rules.specs.Vector.{one_more}
use Rattle.layout.specs.Tables.{state}

pub one_left : (n k : ℕ) → k < n → n - k ≡ suc (n - (k + 1))
one_left n k h = omega arith

pub none_left : (n k : ℕ) → n ≤ k → n - k ≡ 0
none_left n k h = omega arith

module _ (f : ℕ → Numbers → Numbers) (numbers : Numbers) (n t : ℕ) where
  pub for-on : t < n → (left : Numbers) → left ≡ f t numbers → for_threads f (n - (t + 1)) (t + 1) left ≡ for_threads f (n - t) t numbers
  unfolding for_threads
  for-on h left e = rw (one_left n t h, e)

  pub for-end : n ≤ t → numbers ≡ for_threads f (n - t) t numbers
  unfolding for_threads
  for-end h = rw (none_left n t h)

module _ (numbers : Numbers) (t : ℕ) where
  module _ (chosen : ℕ) where
    pub awake-one : number numbers (rules.state t) ≡ yielded → not (eqb t chosen) ≡ true → with_number numbers (rules.state t) runnable ≡ awake chosen t numbers
    awake-one e d = rw (e, d)

    pub awake-chosen : number numbers (rules.state t) ≡ yielded → not (eqb t chosen) ≡ false → numbers ≡ awake chosen t numbers
    awake-chosen e d = rw (e, d)

    pub awake-none : number numbers (rules.state t) ≢ yielded → numbers ≡ awake chosen t numbers
    awake-none n = rw (ne_eqb (number numbers (rules.state t)) yielded n)

  pub run_none : 5 ≤ t → false ≡ can_run numbers t
  run_none h = rw (le-ltb t 5 h)

  pub run-some : t < 5 → (is_in numbers runnable t || is_in numbers yielded t) ≡ can_run numbers t
  run-some h = rw (lt-ltb t 5 h)

module _ (numbers : Numbers) (n t : ℕ) (more : t < n) where
  pub over-not : number numbers (rules.state t) ≢ ended → not (is_in numbers absent t) ≡ true → false ≡ all_over numbers (n - t) t
  unfolding all_over
  over-not e a = rw (one_left n t more, ne_eqb (number numbers (rules.state t)) ended e, not-true (is_in numbers absent t) a)

  pub over-ended : number numbers (rules.state t) ≡ ended → all_over numbers (n - (t + 1)) (t + 1) ≡ all_over numbers (n - t) t
  unfolding all_over
  over-ended e = rw (one_left n t more, e)

  pub over-absent : number numbers (rules.state t) ≢ ended → not (is_in numbers absent t) ≡ false → all_over numbers (n - (t + 1)) (t + 1) ≡ all_over numbers (n - t) t
  unfolding all_over
  over-absent e a = rw (one_left n t more, ne_eqb (number numbers (rules.state t)) ended e, not-false (is_in numbers absent t) a)

module _ (numbers : Numbers) (n t : ℕ) (no_more : n ≤ t) where
  pub over-end : true ≡ all_over numbers (n - t) t
  unfolding all_over
  over-end = rw (none_left n t no_more)

-- whether some of the five can run, as a list of them is asked
pub some_of_five : (numbers : Numbers) → list_any (can_run numbers) (range_with_len 0 5) ≡ some_can_run numbers 5 0
unfolding some_can_run
some_of_five numbers = refl

module _ (numbers : Numbers) (target t : ℕ) where
  pub freed-one : number numbers (rules.state t) ≡ blocked → (w : ℕ) → w ≡ number numbers (awaits t) → eqb w target ≡ true →
      with_number numbers (rules.state t) runnable ≡ freed target t numbers
  freed-one e w a b = rw (e, ← a, b)

  pub freed-away : number numbers (rules.state t) ≡ blocked → (w : ℕ) → w ≡ number numbers (awaits t) → eqb w target ≡ false → numbers ≡ freed target t numbers
  freed-away e w a b = rw (e, ← a, b)

  pub freed-other : number numbers (rules.state t) ≢ blocked → numbers ≡ freed target t numbers
  freed-other n = rw (ne_eqb (number numbers (rules.state t)) blocked n)

-- a thread that ends: its own numbers, then the joins on it
pub ended-as : (clocks : Clocks) (marks : Marks) (values : Values) (numbers left : Numbers) (t : ℕ) →
    left ≡ for_threads (freed t) 5 0 (with_number (with_number numbers (rules.state t) ended) (operation t) no_operation) →
    state clocks marks values left ≡ thread_ended (state clocks marks values numbers) t
unfolding thread_ended
ended-as clocks marks values numbers left t e = rw e

-- a thread that yields, with its version and one more yield as they were found
pub yielded-as : (clocks : Clocks) (marks : Marks) (values : Values) (numbers : Numbers) (t v n : ℕ) → v ≡ version clocks t →
    n ≡ one_more (number (with_number (with_number numbers (rules.state t) yielded) (last_yield t) v) (yields t)) →
    state clocks marks values (with_number (with_number (with_number (with_number numbers (rules.state t) yielded) (last_yield t) v) (yields t) n) (operation t) no_operation)
    ≡ yield_done (state clocks marks values numbers) t
yielded-as clocks marks values numbers t v n e f = rw (f, e)
