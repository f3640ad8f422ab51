-- How writes to the numbers change what stands. One thread, the active one, is looked at with its row apart: between two writes
-- it may stand as no thread does, while all that is said of the others is kept. Assumes nothing.
--     Facts                 of the others, the rows under way and begun, and the counts
--     keep, to_row, begun_one         writes to the thread's own numbers and to those that nothing is said of
--     awake-facts, freed-facts      the loops over the threads
--     opened, closed, holding       from what stands in a state, back to it, and to what holds between ticks
use Prim.Native.Nat.{ℕ, zero, suc, ◌+◌, ◌-◌, ◌≤◌, ◌<◌}
use mathlib.Core.Bool.{Bool, true, not, ◌&&◌, true≢false}
use mathlib.Core.Path.{◌≡◌, refl, sym, ◌∙◌}
use mathlib.Core.Logic.{◌≢◌, inl, inr}
use native.Mathlib.Omega.{arith}
use native.Mathlib.Decide.{ℕ_discrete}
use lib.Dec.{eqb}
use lib.ListN.{length}
use borrow.Author.Tests.{eqb-true, eq-eqb, ne_eqb}
use Rattle.rules.specs.Table.{threads_of, cells_of}
use Rattle.rules.specs.State as State
use Rattle.rules.specs.State.{State, Numbers, Number, number, with_number, number_at, numbers_held, threads, cells, next_row, rows_of, phase, count, rows_begun, awaits}
use Rattle.rules.specs.Machine.{Program, for_threads, awake, freed, is_in, absent, runnable, blocked, yielded, ended, current}
use Rattle.rules.specs.Measure.{CanAct}
use Rattle.rules.proofs.StateLaws.{number_same, number-other, number-kept}
use Rattle.rules.proofs.NumberLaws.{five-one, five-has, five-same, after, for-threads}
use Rattle.rules.proofs.Measure.{Is}
use Rattle.rules.proofs.MeasureRows.{pick, both_left}
use Rattle.standing.specs.Standing.{Thread, ThreadIn, FactsLeft, FactsHold, under_way, begun_by}

-- One thread's numbers

-- a thread that is there is made runnable
runs-again : (p : Program) (i s k ph w : ℕ) → s ≢ absent → Thread p i s k ph w → Thread p i runnable k ph w
runs-again p i s k ph w d h = record {
  present = λ l. omega arith;
  missing = λ l. absurd (d (h.missing l));
  phased = h.phased;
  row = h.row;
  acts = h.acts;
  over = λ e. absurd (omega arith);
  waits = λ e. absurd (omega arith);
}

-- one that can act is there, has not ended and is not blocked
pub acts-so : {s : ℕ} → CanAct s → (runnable ≤ s) × (s ≤ ended) × (s ≢ ended) × (s ≢ blocked)
acts-so (inl e) = omega arith
acts-so (inr e) = omega arith

-- one that is not blocked waits for none, or for any
pub waits-none : (p : Program) (i s k ph w v : ℕ) → s ≢ blocked → Thread p i s k ph w → Thread p i s k ph v
waits-none p i s k ph w v d h = record {
  present = h.present;
  missing = h.missing;
  phased = h.phased;
  row = h.row;
  acts = h.acts;
  over = h.over;
  waits = λ e. absurd (d e);
}

-- The others, where thread t is at row k: q of their rows are under way, r rows have begun in all, and below u none has yielded

pub record Facts (p : Program) (t k q r u : ℕ) (a : Numbers) : Type 0 where
  pub long : length a ≡ numbers_held
  pub at : number a (next_row t) ≡ k
  pub others : (i : ℕ) → i < threads → i ≢ t → ThreadIn p a i
  pub blocks : (i : ℕ) → i < threads → i ≢ t → number a (State.state i) ≡ blocked → number a (awaits i) ≢ t →
      number a (State.state (number a (awaits i))) ≢ ended
  pub awake : (i : ℕ) → i < threads → i ≢ t → i < u → number a (State.state i) ≢ yielded
  pub acting : under_way a ≡ q + number a (phase t)
  pub rows : begun_by a ≡ r
  pub counted : (c : ℕ) → c < cells_of p.table → 1 ≤ number a (count c)

-- A thread's end frees the joins on it: of the threads below i none is still blocked on thread t
record Free (t i : ℕ) (a : Numbers) : Type 0 where
  long : length a ≡ numbers_held
  none : (j : ℕ) → j < i → number a (State.state j) ≡ blocked → number a (awaits j) ≢ t

one_free : (t i : ℕ) (a : Numbers) → i < threads → Free t i a → Free t (i + 1) (freed t i a)
one_free t i a below f =
    pick (Free t (i + 1)) (is_in a blocked i && eqb (number a (awaits i)) t)
    (λ e. record {
      long = number-kept a (State.state i) runnable ∙ f.long;
      none = λ j h. rw (number-other a (State.state i) (awaits j) runnable (omega arith))
          (after (λ (x : ℕ). x ≡ blocked → number a (awaits j) ≢ t) a (State.state i) (State.state j) runnable (omega (arith, f.long))
          (λ same g. absurd (omega arith)) (λ d g. f.none j (omega arith) g));
    })
    (λ e. record {
      long = f.long;
      none = λ j h g o. elim (ℕ_discrete j i) [
        | yes same ↦ true≢false (sym (both (eq-eqb _ _ (rw same at g)) (eq-eqb _ _ (rw same at o))) ∙ e)
        | no d ↦ f.none j (omega arith) g o
      ];
    })
  where
    both : {x y : Bool} → x ≡ true → y ≡ true → (x && y) ≡ true
    both e g = rw (e, g) refl

all-free : (t n i : ℕ) (a : Numbers) → i + n ≡ threads → Free t i a → Free t threads (for_threads (freed t) n i a)
unfolding for_threads
all-free t zero i a e f = let same : i ≡ threads = omega arith in rw same at f
all-free t (suc n) i a e f = all-free t n (i + 1) (freed t i a) (omega arith) (one_free t i a (omega arith) f)

-- "only then are other threads' joins on it free"
pub freed-none : (t : ℕ) (a : Numbers) → length a ≡ numbers_held → (j : ℕ) → j < threads →
    number (for_threads (freed t) threads 0 a) (State.state j) ≡ blocked → number (for_threads (freed t) threads 0 a) (awaits j) ≢ t
freed-none t a h = (all-free t threads 0 a (omega arith) (record { long = h; none = λ j l. absurd (omega arith) })).none

-- a write leaves the other threads alone
abbrev Apart : Number → ℕ → Type 0
Apart n t = (i : ℕ) → i < threads → i ≢ t →
    (number_at (State.state i) ≢ number_at n) × (number_at (next_row i) ≢ number_at n) × (number_at (phase i) ≢ number_at n)
    × (number_at (awaits i) ≢ number_at n)

module _ (p : Program) (held : cells_of p.table ≤ cells) (few : threads_of p.table ≤ threads) (t : ℕ) (below : t < threads) where
  module _ {k q r u : ℕ} {a : Numbers} (f : Facts p t k q r u a) where
    others-kept : (n : Number) (v : ℕ) → Apart n t → (i : ℕ) → i < threads → i ≢ t → ThreadIn p (with_number a n v) i
    others-kept n v e i h d =
        let c = e i h d in
        let one = number-other a n (State.state i) v c.0 in
        let two = number-other a n (next_row i) v c.1 in
        let three = number-other a n (phase i) v c.2 in
        rw (one, two, three, number-other a n (awaits i) v c.3) (f.others i h d)

    awaits-within : (i : ℕ) → i < threads → i ≢ t → number a (State.state i) ≡ blocked → number a (awaits i) < threads
    awaits-within i h d e = let l : number a (awaits i) < threads_of p.table = ((f.others i h d).waits e).2 in omega arith

    blocks-kept : (n : Number) (v : ℕ) → Apart n t → (i : ℕ) → i < threads → i ≢ t → number (with_number a n v) (State.state i) ≡ blocked →
        number (with_number a n v) (awaits i) ≢ t → number (with_number a n v) (State.state (number (with_number a n v) (awaits i))) ≢ ended
    blocks-kept n v e i h d =
        rw (number-other a n (State.state i) v (e i h d).0, number-other a n (awaits i) v (e i h d).3)
        (λ g l.
        let j = number a (awaits i) in
        rw (number-other a n (State.state j) v (e j (awaits-within i h d g) l).0) (f.blocks i h d g l))

    awake-kept : (n : Number) (v : ℕ) → Apart n t → (i : ℕ) → i < threads → i ≢ t → i < u → number (with_number a n v) (State.state i) ≢ yielded
    awake-kept n v e i h d l = rw (number-other a n (State.state i) v (e i h d).0) (f.awake i h d l)

    acting-kept : (n : Number) (v : ℕ) → Apart n t → under_way (with_number a n v) ≡ q + number (with_number a n v) (phase t)
    acting-kept n v e =
        let one = five-one (λ (i : ℕ). number a (phase i)) (λ (i : ℕ). number (with_number a n v) (phase i)) t below
        (λ i h d. number-other a n (phase i) v (e i h d).2) in
        omega (arith, f.acting)

    counted-kept : (n : Number) (v : ℕ) → number_at n < numbers_held → ((c : ℕ) → c < cells → number_at (count c) ≡ number_at n → 1 ≤ v) →
        (c : ℕ) → c < cells_of p.table → 1 ≤ number (with_number a n v) (count c)
    counted-kept n v within e c h =
        after (λ (x : ℕ). 1 ≤ x) a n (count c) v (omega (arith, f.long)) (e c (omega arith)) (λ d. f.counted c h)

    -- the thread's own numbers, but for the rows it has begun; and those that nothing is said of
    put : (n : Number) (v : ℕ) {j : ℕ} → (number_at n < numbers_held) × (number_at (next_row t) ≡ number_at n → v ≡ j)
        × (number_at (next_row t) ≢ number_at n → k ≡ j) × Apart n t × ((i : ℕ) → i < threads → number_at (rows_of i) ≢ number_at n)
        × ((c : ℕ) → c < cells → number_at (count c) ≡ number_at n → 1 ≤ v) → Facts p t j q r u (with_number a n v)
    put n v {j} w = record {
      long = number-kept a n v ∙ f.long;
      at = after (λ (x : ℕ). x ≡ j) a n (next_row t) v (omega (arith, f.long, w.0)) w.1 (λ d. f.at ∙ w.2 d);
      others = others-kept n v w.3;
      blocks = blocks-kept n v w.3;
      awake = awake-kept n v w.3;
      acting = acting-kept n v w.3;
      rows = five-same (λ (i : ℕ). number a (rows_of i)) (λ (i : ℕ). number (with_number a n v) (rows_of i))
          (λ i h. number-other a n (rows_of i) v (w.4 i h)) ∙ f.rows;
      counted = counted-kept n v w.0 w.5;
    }

    pub keep : (n : Number) (v : ℕ) → (number_at n < numbers_held) × (number_at (next_row t) ≢ number_at n)
        × Apart n t × ((i : ℕ) → i < threads → number_at (rows_of i) ≢ number_at n)
        × ((c : ℕ) → c < cells → number_at (count c) ≡ number_at n → 1 ≤ v) → Facts p t k q r u (with_number a n v)
    keep n v w = put n v (w.0, λ e. absurd (w.1 e), λ d. refl, w.2, w.3, w.4)

    pub to_row : (j : ℕ) → Facts p t j q r u (with_number a (next_row t) j)
    to_row j = put (next_row t) j (omega arith)

    -- one row more
    pub begun_one : (v : ℕ) → v ≡ number a (rows_of t) + 1 → Facts p t k q (r + 1) u (with_number a (rows_of t) v)
    begun_one v e =
        let n = rows_of t in
        let one = five-one (λ (i : ℕ). number a (rows_of i)) (λ (i : ℕ). number (with_number a n v) (rows_of i)) t below
        (λ i h d. number-other a n (rows_of i) v (omega arith)) in
        let now = number_same a n v (omega (arith, f.long)) in
        record {
          long = number-kept a n v ∙ f.long;
          at = number-other a n (next_row t) v (omega arith) ∙ f.at;
          others = others-kept n v (omega arith);
          blocks = blocks-kept n v (omega arith);
          awake = awake-kept n v (omega arith);
          acting = acting-kept n v (omega arith);
          rows = omega (arith, f.rows);
          counted = counted-kept n v (omega arith) (omega arith);
        }

    -- a thread that is there is made runnable, this one or another
    again : (i : ℕ) → i < threads → number a (State.state i) ≢ absent → Facts p t k q r u (with_number a (State.state i) runnable)
    again i h there =
        let n = State.state i in
        let a' = with_number a n runnable in
        let stood : (j : ℕ) (P : ℕ → Type 0) → (i ≡ j → P runnable) → (i ≢ j → P (number a (State.state j))) → P (number a' (State.state j)) =
        λ j P x y. after P a n (State.state j) runnable (omega (arith, f.long)) (λ e. x (omega arith)) (λ e. y (λ g. omega arith)) in
        let other : (j : ℕ) → j < threads → j ≢ t → ThreadIn p a' j =
        λ j l d.
        let one = number-other a n (next_row j) runnable (omega arith) in
        let two = number-other a n (phase j) runnable (omega arith) in
        rw (one, two, number-other a n (awaits j) runnable (omega arith))
        (stood j (λ (x : ℕ). Thread p j x (number a (next_row j)) (number a (phase j)) (number a (awaits j)))
        (λ same. runs-again p j _ _ _ _ (rw same at there) (f.others j l d))
        (λ e. f.others j l d)) in
        let waiting : (j : ℕ) → j < threads → j ≢ t → number a' (State.state j) ≡ blocked → number a' (awaits j) ≢ t →
        number a' (State.state (number a' (awaits j))) ≢ ended =
        λ j l d. rw (number-other a n (awaits j) runnable (omega arith))
        (stood j (λ (x : ℕ). x ≡ blocked → number a (awaits j) ≢ t → number a' (State.state (number a (awaits j))) ≢ ended)
        (λ same e. absurd (omega arith))
        (λ z e o. stood (number a (awaits j)) (λ (x : ℕ). x ≢ ended) (λ same. omega arith) (λ same. f.blocks j l d e o))) in
        let risen : (j : ℕ) → j < threads → j ≢ t → j < u → number a' (State.state j) ≢ yielded =
        λ j l d o. stood j (λ (x : ℕ). x ≢ yielded) (λ same. omega arith) (λ same. f.awake j l d o) in
        record {
          long = number-kept a n runnable ∙ f.long;
          at = number-other a n (next_row t) runnable (omega arith) ∙ f.at;
          others = other;
          blocks = waiting;
          awake = risen;
          acting = rw (number-other a n (phase t) runnable (omega arith))
              (five-same (λ (j : ℕ). number a (phase j)) (λ (j : ℕ). number a' (phase j))
              (λ j l. number-other a n (phase j) runnable (omega arith)) ∙ f.acting);
          rows = five-same (λ (j : ℕ). number a (rows_of j)) (λ (j : ℕ). number a' (rows_of j))
              (λ j l. number-other a n (rows_of j) runnable (omega arith)) ∙ f.rows;
          counted = counted-kept n runnable (omega arith) (omega arith);
        }

    -- one more has not yielded
    one-awake : (u ≢ t → number a (State.state u) ≢ yielded) → Facts p t k q r (u + 1) a
    one-awake d = record {
      long = f.long;
      at = f.at;
      others = f.others;
      blocks = f.blocks;
      awake = λ i h e l. elim (ℕ_discrete i u) [ yes same ↦ rw same (d (rw same at e)) | no o ↦ f.awake i h e (omega arith) ];
      acting = f.acting;
      rows = f.rows;
      counted = f.counted;
    }

  -- "every yielded thread other than the one just chosen becomes runnable": that one is t
  awake-one : {k q r i : ℕ} (a : Numbers) → i < threads → Facts p t k q r i a → Facts p t k q r (i + 1) (awake t i a)
  awake-one {k} {q} {r} {i} a h f =
      pick (Facts p t k q r (i + 1)) (is_in a yielded i && not (eqb i t))
      (λ e.
      let x : number a (State.state i) ≡ yielded = eqb-true _ _ (both_left _ _ e) in
      let y : number (with_number a (State.state i) runnable) (State.state i) ≡ runnable =
      number_same a (State.state i) runnable (omega (arith, f.long)) in
      one-awake (again f i h (λ d. omega arith)) (λ d. omega arith))
      (λ e. one-awake f (λ d y. true≢false (sym (rw (eq-eqb _ _ y, ne_eqb i t d) refl) ∙ e)))

  -- "until the target's end makes it runnable"
  freed-one : {k q r u : ℕ} (i : ℕ) (a : Numbers) → i < threads → Facts p t k q r u a → Facts p t k q r u (freed t i a)
  freed-one {k} {q} {r} {u} i a h f =
      pick (Facts p t k q r u) (is_in a blocked i && eqb (number a (awaits i)) t)
      (λ e. let x : number a (State.state i) ≡ blocked = eqb-true _ _ (both_left _ _ e) in again f i h (λ d. omega arith)) (λ e. f)

  pub awake-facts : {k q r : ℕ} (n i : ℕ) (a : Numbers) → i + n ≡ threads → Facts p t k q r i a → Facts p t k q r threads (for_threads (awake t) n i a)
  unfolding for_threads
  awake-facts {k} {q} {r} zero i a e f = let same : i ≡ threads = omega arith in rw same at f
  awake-facts (suc n) i a e f = awake-facts n (i + 1) (awake t i a) (omega arith) (awake-one a (omega arith) f)

  pub freed-facts : {k q r u : ℕ} (a : Numbers) → Facts p t k q r u a → Facts p t k q r u (for_threads (freed t) threads 0 a)
  freed-facts {k} {q} {r} {u} a f =
      for-threads (Facts p t k q r u) (freed t) threads (λ i b h g. freed-one i b h g) threads 0 a (omega arith) f

  -- What stands in a state, with this thread apart: the active one, or another
  pub opened : (st : State) (n u : ℕ) → (u ≢ 0 → t ≡ current st) → FactsLeft p st n →
      Facts p t (number st.numbers (next_row t)) (under_way st.numbers - number st.numbers (phase t)) (number st.numbers rows_begun) u
      st.numbers
  opened st n u same h = record {
    long = h.whole.long;
    at = refl;
    others = λ i l d. h.each i l;
    blocks = λ i l d e o. h.blocks i l e;
    awake = λ i l d o. let z : t ≡ current st = same (omega arith) in h.awake i l (λ g. d (g ∙ sym z));
    acting = omega (arith, five-has (λ (i : ℕ). number st.numbers (phase i)) t below);
    rows = h.shared;
    counted = h.counted;
  }

  -- and back, where this thread stands as a thread does, and no other is blocked on it where it has ended
  pub closed : {s k ph b m q r : ℕ} (st : State) (n : ℕ) → t < threads_of p.table → Is t s ph b m st.numbers →
      Facts p t k q r threads st.numbers → Thread p t s k ph (number st.numbers (awaits t)) →
      (s ≡ blocked → number st.numbers (State.state (number st.numbers (awaits t))) ≢ ended) →
      ((i : ℕ) → i < threads → number st.numbers (State.state i) ≡ blocked → number st.numbers (awaits i) ≡ t → s ≢ ended) →
      (n + (q + ph) ≡ b) × (r ≡ b) × (b ≤ p.operations) → FactsLeft p st n
  closed {s} {k} {ph} st n within is f own mine others sums =
      let a = st.numbers in
      let stands : ThreadIn p a t = rw (is.stands, f.at, is.in_phase) own in
      record {
        whole = is.whole;
        runs = rw is.runs within;
        each = λ i h. elim (ℕ_discrete i t) [ yes e ↦ rw e stands | no d ↦ f.others i h d ];
        blocks = λ i h e. elim (ℕ_discrete i t) [
          | yes same ↦ rw same (mine (sym is.stands ∙ rw same at e))
          | no d ↦ elim (ℕ_discrete (number a (awaits i)) t) [
            | yes on ↦ rw (on, is.stands) (others i h e on)
            | no o ↦ f.blocks i h d e o
          ]
        ];
        awake = λ i h d. f.awake i h (λ e. d (e ∙ sym is.runs)) h;
        counted = f.counted;
        entries = omega (arith, f.acting, is.in_phase, is.rows, sums.0);
        shared = f.rows ∙ (sums.1 ∙ sym is.rows);
        limited = omega (arith, is.rows, sums.2);
      }

  -- and to what holds between ticks, where it runs, whomever it once waited for
  pub holding : {s k ph b m q r w : ℕ} (st : State) (n : ℕ) → t < threads_of p.table → CanAct s → Is t s ph b m st.numbers →
      Facts p t k q r threads st.numbers → Thread p t s k ph w → (n + (q + ph) ≡ b) × (r ≡ b) × (b ≤ p.operations) → FactsHold p st n
  holding {s} {w = w} st n within can is f own sums =
      let so = acts-so can in
      record {
        over = closed st n within is f (waits-none p t s _ _ w _ so.3 own) (λ g. absurd (so.3 g)) (λ i h g o. so.2) sums;
        ready = rw (is.runs, is.stands) can;
      }
