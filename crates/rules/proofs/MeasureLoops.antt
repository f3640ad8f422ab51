-- The measure where a scheduling wakes the threads that have yielded, and where a thread's end frees the joins on it.
-- Assumes nothing.
use Prim.Native.Nat.{ℕ, zero, suc, ◌+◌, ◌-◌, ◌≤◌, ◌<◌}
use mathlib.Core.Bool.{Bool, true, false, cond, not, ◌&&◌}
use mathlib.Core.Path.{◌≡◌, refl, ap, sym, ◌∙◌}
use mathlib.Core.Logic.{◌≢◌, inl, inr}
use native.Mathlib.Omega.{arith}
use native.Mathlib.Decide.{ℕ_discrete}
use lib.Dec.{eqb}
use borrow.Author.Tests.{eqb-true, eqb-false, not-true}
use Rattle.rules.specs.State as State
use Rattle.rules.specs.State.{Numbers, number, with_number, threads, phase, awaits}
use Rattle.rules.specs.Machine.{for_threads, awake, freed, is_in, runnable, blocked, yielded, ended, to_begin}
use Rattle.rules.specs.Measure.{ticks_left, ticks_left_of, CanAct}
use Rattle.rules.proofs.NumberLaws.{for-threads}
use Rattle.rules.proofs.Measure.{Is, other_state}
use Rattle.rules.proofs.MeasureRows.{pick, both_left, both_right}

-- a thread that has yielded has as many ticks left as a runnable one
yielded-same : (row : ℕ) → ticks_left yielded row ≡ ticks_left runnable row
unfolding ticks_left
yielded-same row = refl

-- one that is blocked has at most one less
blocked-less : (row : ℕ) → (ticks_left blocked row ≤ ticks_left runnable row) × (ticks_left runnable row ≤ ticks_left blocked row + 1)
unfolding ticks_left
blocked-less row = by (eqb row to_begin)
  where
    by : (b : Bool) → (cond b 0 1 + 5 ≤ cond b 0 2 + 5) × (cond b 0 2 + 5 ≤ cond b 0 1 + 5 + 1)
    by true = omega arith
    by false = omega arith

-- a thread that can act has as many ticks left as a runnable one
pub acts-same : {s : ℕ} (row : ℕ) → CanAct s → ticks_left s row ≡ ticks_left runnable row
acts-same row (inl e) = ap (λ (x : ℕ). ticks_left x row) e
acts-same row (inr e) = ap (λ (x : ℕ). ticks_left x row) e ∙ yielded-same row

module _ {t ph b : ℕ} (below : t < threads) where
  -- another thread is woken; the chosen one, t, is left as it is
  awake-one : {s m : ℕ} (i : ℕ) (a : Numbers) → i < threads → Is t s ph b m a → Is t s ph b m (awake t i a)
  awake-one {s} {m} i a h is =
      pick (Is t s ph b m) (is_in a yielded i && not (eqb i t))
      (λ e. other_state below is i runnable m h (eqb-false i t (not-true (eqb i t) (both_right (is_in a yielded i) _ e)))
      (ap (λ (x : ℕ). m + x)
      (ap (λ (x : ℕ). ticks_left x (number a (phase i))) (eqb-true _ _ (both_left _ _ e)) ∙ yielded-same (number a (phase i)))))
      (λ e. is)

  -- "every yielded thread other than the one just chosen becomes runnable"
  pub awake-all : {s m : ℕ} (a : Numbers) → Is t s ph b m a → Is t s ph b m (for_threads (awake t) threads 0 a)
  awake-all {s} {m} a is = for-threads (Is t s ph b m) (awake t) threads (λ i a h is. awake-one i a h is) threads 0 a (omega arith) is

  -- a thread that is freed has at most one tick more; the thread that has ended is not freed
  freed-one : {m : ℕ} {a : Numbers} (i : ℕ) → i < threads → Is t ended ph b m a →
      (n : ℕ) × Is t ended ph b n (freed t i a) × (n ≤ m + 1) × (i ≡ t → n ≤ m)
  freed-one {m} {a} i h is =
      pick (λ (c : Numbers). (n : ℕ) × Is t ended ph b n c × (n ≤ m + 1) × (i ≡ t → n ≤ m)) (is_in a blocked i && eqb (number a (awaits i)) t)
      (λ e. free (eqb-true _ _ (both_left _ _ e)))
      (λ e. (m, is, omega arith, λ q. omega arith))
    where
      free : number a (State.state i) ≡ blocked →
          (n : ℕ) × Is t ended ph b n (with_number a (State.state i) runnable) × (n ≤ m + 1) × (i ≡ t → n ≤ m)
      free e =
          let row = number a (phase i) in
          let d : i ≢ t = λ q. let z : ◌≡◌ {A = ℕ} blocked ended = sym e ∙ (ap (λ (x : ℕ). number a (State.state x)) q ∙ is.stands) in omega arith in
          let l = blocked-less row in
          let was : ticks_left_of a i ≡ ticks_left blocked row = ap (λ (x : ℕ). ticks_left x row) e in (
            m + (ticks_left runnable row - ticks_left blocked row),
            other_state below is i runnable (m + (ticks_left runnable row - ticks_left blocked row)) h d (omega arith),
            omega arith,
            λ q. absurd (d q),
          )

  -- "until the target's end makes it runnable": of the n threads from i on, all but the one that has ended
  pub freed-all : {m : ℕ} (n i : ℕ) (a : Numbers) → i + n ≡ threads → Is t ended ph b m a →
      (k : ℕ) × Is t ended ph b k (for_threads (freed t) n i a) × (k ≤ m + n) × (i ≤ t → k < m + n)
  unfolding for_threads
  freed-all {m} zero i a e is = (m, is, omega arith, λ h. absurd (omega arith))
  freed-all {m} (suc n) i a e is =
      let one = freed-one i (omega arith) is in
      let more = freed-all {m = one.0} n (i + 1) (freed t i a) (omega arith) one.1 in (
        more.0,
        more.1,
        omega (arith, one.2, more.2),
        λ h. elim (ℕ_discrete i t) [
          | yes q ↦ omega (arith, one.3 q, more.2)
          | no d ↦ omega (arith, one.2, more.3 (omega arith))
        ],
      )
