-- Numbers of the five threads. Assumes nothing.
--     five, five-one, five-has, five-same     the sum over the five threads
--     after                                   a number after a write
--     for-threads                             what each thread's write keeps
--     more-some, more-below                   one more
use Prim.Native.Nat.{ℕ, zero, suc, ◌+◌, ◌≤◌, ◌<◌}
use mathlib.Core.Bool.{Bool, true, false, cond}
use mathlib.Core.Path.{◌≡◌, refl}
use mathlib.Core.Logic.{◌≢◌}
use native.Mathlib.Omega.{arith}
use native.Mathlib.Decide.{ℕ_discrete}
use lib.Dec.{ltb}
use lib.ListN.{length}
use borrow.Author.Tests.{lt-ltb, ltb-false}
use Rattle.rules.specs.Vector.{largest, one_more}
use Rattle.rules.specs.State.{Numbers, Number, number, with_number, number_at, threads}
use Rattle.rules.specs.Machine.{for_threads}
use Rattle.rules.proofs.StateLaws.{number_same, number-other}

-- Five threads

abbrev pub five : (ℕ → ℕ) → ℕ
five f = f 0 + f 1 + f 2 + f 3 + f 4

-- where only one thread's part changes, so does the sum
pub five-one : (f g : ℕ → ℕ) (t : ℕ) → t < threads → ((i : ℕ) → i < threads → i ≢ t → g i ≡ f i) → five g + f t ≡ five f + g t
five-one f g zero h e =
    omega (arith, e 1 (omega arith) (omega arith), e 2 (omega arith) (omega arith), e 3 (omega arith) (omega arith), e 4 (omega arith) (omega arith))
five-one f g (suc zero) h e =
    omega (arith, e 0 (omega arith) (omega arith), e 2 (omega arith) (omega arith), e 3 (omega arith) (omega arith), e 4 (omega arith) (omega arith))
five-one f g (suc (suc zero)) h e =
    omega (arith, e 0 (omega arith) (omega arith), e 1 (omega arith) (omega arith), e 3 (omega arith) (omega arith), e 4 (omega arith) (omega arith))
five-one f g (suc (suc (suc zero))) h e =
    omega (arith, e 0 (omega arith) (omega arith), e 1 (omega arith) (omega arith), e 2 (omega arith) (omega arith), e 4 (omega arith) (omega arith))
five-one f g (suc (suc (suc (suc zero)))) h e =
    omega (arith, e 0 (omega arith) (omega arith), e 1 (omega arith) (omega arith), e 2 (omega arith) (omega arith), e 3 (omega arith) (omega arith))
five-one f g (suc (suc (suc (suc (suc t))))) h e = absurd (omega arith)

pub five-same : (f g : ℕ → ℕ) → ((i : ℕ) → i < threads → g i ≡ f i) → five g ≡ five f
five-same f g e = omega (arith, e 0 (omega arith), e 1 (omega arith), e 2 (omega arith), e 3 (omega arith), e 4 (omega arith))

-- a thread's part is in the sum
pub five-has : (f : ℕ → ℕ) (t : ℕ) → t < threads → f t ≤ five f
five-has f zero h = omega arith
five-has f (suc zero) h = omega arith
five-has f (suc (suc zero)) h = omega arith
five-has f (suc (suc (suc zero))) h = omega arith
five-has f (suc (suc (suc (suc zero)))) h = omega arith
five-has f (suc (suc (suc (suc (suc t))))) h = absurd (omega arith)

-- what is said of a number after a write under the name k: of what is written there, of what was under any other name
pub after : (P : ℕ → Type 0) (a : Numbers) (k n : Number) (v : ℕ) → number_at k < length a → (number_at n ≡ number_at k → P v) →
    (number_at n ≢ number_at k → P (number a n)) → P (number (with_number a k v) n)
after P a k n v h f g =
    elim (ℕ_discrete (number_at n) (number_at k)) [
      | yes q ↦ rw (q, number_same a k v h) (f q)
      | no d ↦ rw (number-other a k n v d) (g d)
    ]

-- what is kept for each thread below the top is kept for the n threads from t on
pub for-threads : (P : Numbers → Type 0) (f : ℕ → Numbers → Numbers) (top : ℕ) → ((i : ℕ) (a : Numbers) → i < top → P a → P (f i a)) →
    (n t : ℕ) (a : Numbers) → t + n ≤ top → P a → P (for_threads f n t a)
unfolding for_threads
for-threads P f top step zero t a h k = k
for-threads P f top step (suc n) t a h k = for-threads P f top step n (t + 1) (f t a) (omega arith) (step t a (omega arith) k)

-- one more is something, and at most one more; below the largest number it is one more
pub more-some : (x : ℕ) → (1 ≤ one_more x) × (one_more x ≤ x + 1)
more-some x = by (ltb x largest) refl
  where
    by : (b : Bool) → ltb x largest ≡ b → (1 ≤ cond b (x + 1) x) × (cond b (x + 1) x ≤ x + 1)
    by true e = omega arith
    by false e = omega (arith, ltb-false x largest e)

pub more-below : (x : ℕ) → x < largest → one_more x ≡ x + 1
more-below x h = rw (lt-ltb x largest h)
