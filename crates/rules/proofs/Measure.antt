-- How writes to the numbers change the measure. Assumes nothing.
--     Is                  the active thread's state and phase, the rows begun, and the other threads' work
--     seen, to_active      so it is in any state that is whole, also where another thread becomes the active one
--     aside               a write that neither the measure nor what every tick needs reads
--     to_state, to_phase, to_begun, to_cell, other_state       the writes that they read
use Prim.Native.Nat.{ℕ, ◌+◌, ◌-◌, ◌<◌}
use mathlib.Core.Path.{◌≡◌, refl, ap₂, ◌∙◌}
use mathlib.Core.Logic.{◌≢◌}
use native.Mathlib.Omega.{arith}
use lib.ListN.{length}
use Rattle.rules.specs.State as State
use Rattle.rules.specs.State.{State, Numbers, Number, number, with_number, number_at, numbers_held, threads, cells, operates_on, phase, active_thread, rows_begun}
use Rattle.rules.specs.Measure.{ticks_left, ticks_left_of, work, Whole}
use Rattle.rules.proofs.StateLaws.{number_same, number-other, number-kept}
use Rattle.rules.proofs.NumberLaws.{five-one, five-has, after}

-- The active thread t stands so, its row is in this phase, so many rows have begun, and the other threads' work is m
pub record Is (t s ph b m : ℕ) (a : Numbers) : Type 0 where
  pub whole : Whole a
  pub runs : number a active_thread ≡ t
  pub stands : number a (State.state t) ≡ s
  pub in_phase : number a (phase t) ≡ ph
  pub rows : number a rows_begun ≡ b
  pub worth : work a ≡ m + ticks_left s ph

-- the number of this name was x; it is y after the write
abbrev Becomes : Number → ℕ → Number → ℕ → ℕ → Type 0
Becomes k v n x y = (number_at n ≡ number_at k → v ≡ y) × (number_at n ≢ number_at k → x ≡ y)

-- what such a write makes of the active thread's state and phase, of the rows begun and of the cells
abbrev Writes : (k : Number) (v t s ph b s' ph' b' : ℕ) → Type 0
Writes k v t s ph b s' ph' b' =
    (number_at k < numbers_held)
    × (number_at active_thread ≢ number_at k)
    × Becomes k v (State.state t) s s'
    × Becomes k v (phase t) ph ph'
    × Becomes k v rows_begun b b'
    × ((i : ℕ) → i < threads → number_at (operates_on i) ≡ number_at k → v < cells)

-- and it leaves the other threads' states and phases alone
abbrev Own : Number → ℕ → Type 0
Own k t = (i : ℕ) → i < threads → i ≢ t → (number_at (State.state i) ≢ number_at k) × (number_at (phase i) ≢ number_at k)

module _ {t s ph b m : ℕ} {a : Numbers} (below : t < threads) (is : Is t s ph b m a) where
  written : (k : Number) (v : ℕ) {s' ph' b' m' : ℕ} → Writes k v t s ph b s' ph' b' →
      (ticks_left_of (with_number a k v) t ≡ ticks_left s' ph' → work (with_number a k v) ≡ m' + ticks_left s' ph') →
      Is t s' ph' b' m' (with_number a k v)
  written k v {s'} {ph'} {b'} w e =
      let h : number_at k < length a = omega (arith, is.whole.long, w.0) in
      let now : (n : Number) (x y : ℕ) → number a n ≡ x → Becomes k v n x y → number (with_number a k v) n ≡ y =
      λ n x y f u. after (λ (z : ℕ). z ≡ y) a k n v h u.0 (λ d. f ∙ u.1 d) in
      let stands = now (State.state t) s s' is.stands w.2 in
      let in_phase = now (phase t) ph ph' is.in_phase w.3 in
      record {
        whole = record {
          long = number-kept a k v ∙ is.whole.long;
          on_cell = λ i l. after (λ (z : ℕ). z < cells) a k (operates_on i) v h (w.5 i l) (λ d. is.whole.on_cell i l);
        };
        runs = number-other a k active_thread v w.1 ∙ is.runs;
        stands = stands;
        in_phase = in_phase;
        rows = now rows_begun b b' is.rows w.4;
        worth = e (ap₂ ticks_left stands in_phase);
      }

  write : (k : Number) (v : ℕ) {s' ph' b' : ℕ} → Writes k v t s ph b s' ph' b' × Own k t → Is t s' ph' b' m (with_number a k v)
  write k v w =
      written k v w.0
      (λ f. omega (
        arith,
        is.worth,
        ap₂ ticks_left is.stands is.in_phase,
        five-one (ticks_left_of a) (ticks_left_of (with_number a k v)) t below
            (λ i h d. ap₂ ticks_left (number-other a k (State.state i) v (w.1 i h d).0) (number-other a k (phase i) v (w.1 i h d).1)),
      ))

  -- of what the measure and `Whole` do not read
  pub aside : (k : Number) (v : ℕ) → Writes k v t s ph b s ph b × Own k t → Is t s ph b m (with_number a k v)
  aside k v w = write k v w

  pub to_state : (v : ℕ) → Is t v ph b m (with_number a (State.state t) v)
  to_state v = write (State.state t) v (omega arith)

  pub to_phase : (v : ℕ) → Is t s v b m (with_number a (phase t) v)
  to_phase v = write (phase t) v (omega arith)

  pub to_begun : (v : ℕ) → Is t s ph v m (with_number a rows_begun v)
  to_begun v = write rows_begun v (omega arith)

  pub to_cell : (v : ℕ) → v < cells → Is t s ph b m (with_number a (operates_on t) v)
  to_cell v h = write (operates_on t) v (omega arith)

  -- another thread's state: its part of the work changes
  pub other_state : (i v n : ℕ) → i < threads → i ≢ t → n + ticks_left_of a i ≡ m + ticks_left v (number a (phase i)) →
      Is t s ph b n (with_number a (State.state i) v)
  other_state i v n h d e =
      let k = State.state i in
      let phased : (j : ℕ) → j < threads → number (with_number a k v) (phase j) ≡ number a (phase j) =
      λ j l. number-other a k (phase j) v (omega arith) in
      written k v (omega arith)
      (λ f. omega (
        arith,
        is.worth,
        e,
        five-one (ticks_left_of a) (ticks_left_of (with_number a k v)) i h
            (λ j l u. ap₂ ticks_left (number-other a k (State.state j) v (omega arith)) (phased j l)),
        ap₂ ticks_left (number_same a k v (omega (arith, is.whole.long))) (phased i h),
      ))

-- any thread can be looked at
abbrev pub other_work : Numbers → ℕ → ℕ
other_work a t = work a - ticks_left_of a t

module _ (a : Numbers) (t : ℕ) (below : t < threads) (whole : Whole a) where
  pub has_part : work a ≡ other_work a t + ticks_left_of a t
  has_part = omega (arith, five-has (ticks_left_of a) t below)

  pub seen : {s ph : ℕ} → number a active_thread ≡ t → number a (State.state t) ≡ s → number a (phase t) ≡ ph →
      Is t s ph (number a rows_begun) (other_work a t) a
  seen e f g = record { whole = whole; runs = e; stands = f; in_phase = g; rows = refl; worth = omega (arith, has_part, ap₂ ticks_left f g) }

  pub to_active : Is t (number a (State.state t)) (number a (phase t)) (number a rows_begun) (other_work a t) (with_number a active_thread t)
  to_active =
      let k = active_thread in
      let stood : (i : ℕ) → i < threads → number (with_number a k t) (State.state i) ≡ number a (State.state i) =
      λ i h. number-other a k (State.state i) t (omega arith) in
      let phased : (i : ℕ) → i < threads → number (with_number a k t) (phase i) ≡ number a (phase i) =
      λ i h. number-other a k (phase i) t (omega arith) in
      record {
        whole = record {
          long = number-kept a k t ∙ whole.long;
          on_cell = λ i h. rw (number-other a k (operates_on i) t (omega arith)) (whole.on_cell i h);
        };
        runs = number_same a k t (omega (arith, whole.long));
        stands = stood t below;
        in_phase = phased t below;
        rows = number-other a k rows_begun t (omega arith);
        worth = omega (
          arith,
          has_part,
          ap₂ ticks_left (stood t below) (phased t below),
          five-one (ticks_left_of a) (ticks_left_of (with_number a k t)) t below (λ i h d. ap₂ ticks_left (stood i h) (phased i h)),
        );
      }
