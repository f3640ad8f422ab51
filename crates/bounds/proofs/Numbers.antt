-- How writes to the numbers keep what is said of them. Assumes nothing.
--     given-own, given-other, of-given         so much of one thread
--     of_all-given          the sum over the five threads
--     aside                a write that a tally does not read
--     last-yield, activates, stored, yields-once, begins       the writes that it reads
--     re-owed, acted       what is owed, with no write
--     Links                what the numbers say of each thread: its rows, what it owes, whether it waits
--     aside-links          a write that the links do not read
--     runs-now, phase-now, operation-now, rows-now       the writes that they read
use Prim.Native.Nat.{ℕ, ◌+◌, ◌≤◌, ◌<◌}
use mathlib.Core.Bool.{cond}
use mathlib.Core.Path.{◌≡◌, refl, ap, sym, ◌∙◌}
use mathlib.Core.Logic.{◌≢◌}
use native.Mathlib.Omega.{arith}
use native.Mathlib.Decide.{ℕ_discrete}
use lib.Dec.{eqb}
use lib.ListN.{length}
use borrow.Author.Tests.{eq-eqb, ne_eqb}
use Rattle.rules.specs.Vector.{one_more, largest}
use Rattle.rules.specs.State.{Numbers, Number, number, with_number, number_at, numbers_held, threads, cells, none}
use Rattle.rules.specs.State.{rows_of, yields, last_yield, operation, phase, count, active_thread, rows_begun}
use Rattle.rules.specs.Machine.{Program, to_begin, no_operation}
use Rattle.rules.proofs.StateLaws.{number_same, number-other, number-kept}
use Rattle.rules.proofs.NumberLaws.{five-one, five-has, five-same, after, more-some, more-below}
use Rattle.rules.proofs.MeasureRows.{pick}
use Rattle.bounds.specs.Bounds.{of_all, given, but, rows_in, owed, waiting, Or, NumbersBounded}
use Rattle.bounds.proofs.Marks.{none-later}

-- So much of one thread

pub given-own : (t v : ℕ) (f : ℕ → ℕ) → given t v f t ≡ v
unfolding given
given-own t v f = rw (eq-eqb t t refl) refl

pub given-other : (t v : ℕ) (f : ℕ → ℕ) (u : ℕ) → u ≢ t → given t v f u ≡ f u
unfolding given
given-other t v f u d = rw (ne_eqb u t d) refl

-- what holds of it
pub of-given : (Q : ℕ → Type 0) (t v : ℕ) (f : ℕ → ℕ) (u : ℕ) → (u ≡ t → Q v) → (u ≢ t → Q (f u)) → Q (given t v f u)
of-given Q t v f u g h =
    elim (ℕ_discrete u t) [
      | yes e ↦ rw (e, given-own t v f) (g e)
      | no d ↦ rw (given-other t v f u d) (h d)
    ]

-- Five threads

pub of_all-given : (f : ℕ → ℕ) (t v : ℕ) → t < threads → of_all (given t v f) + f t ≡ of_all f + v
of_all-given f t v h = omega (arith, five-one f (given t v f) t h (λ u b d. given-other t v f u d), given-own t v f)

-- rows begun are one more, those of thread t too
abbrev pub counted : Numbers → Numbers
counted a = with_number a rows_begun (one_more (number a rows_begun))

abbrev pub more_rows : Numbers → ℕ → Numbers
more_rows a t = with_number (counted a) (rows_of t) (one_more (number (counted a) (rows_of t)))

-- The tally

-- what holds of what was under a name holds of what is under it after a write of v under k
abbrev Becomes : Numbers → Number → ℕ → Number → (ℕ → Type 0) → Type 0
Becomes a k v j Q = (number_at j ≡ number_at k → Q v) × (number_at j ≢ number_at k → Q (number a j))

-- names that stand for neither the active thread nor rows begun
abbrev NoRows : Number → Type 0
NoRows k =
    (number_at k < numbers_held)
    × (number_at active_thread ≢ number_at k)
    × (number_at rows_begun ≢ number_at k)
    × ((u : ℕ) → u < threads → number_at (rows_of u) ≢ number_at k)

-- names that a tally does not read
abbrev pub Apart : Number → Type 0
Apart k =
    NoRows k
    × ((u : ℕ) → u < threads → (number_at (yields u) ≢ number_at k) × (number_at (last_yield u) ≢ number_at k))
    × ((c : ℕ) → c < cells → number_at (count c) ≢ number_at k)

module _ {p : Program} {n : ℕ} {owing most : ℕ → ℕ} (a : Numbers) (s : NumbersBounded p n owing most a) where
  -- a write of no rows, and what is owed with it
  wrote : (k : Number) (v : ℕ) {m : ℕ} {owing' most' : ℕ → ℕ} → NoRows k → m + of_all owing' ≡ number a rows_begun →
      ((c : ℕ) → c < cells → Becomes a k v (count c) (λ (x : ℕ). x + of_all owing' ≤ 1 + number a rows_begun)) →
      ((u : ℕ) → u < threads → Becomes a k v (yields u) (λ (x : ℕ). x + owing' u ≤ rows_in a u)) →
      ((u : ℕ) → u < threads → Becomes a k v (last_yield u) (Or none (most' u))) → NumbersBounded p m owing' most' (with_number a k v)
  wrote k v {m} {owing'} {most'} d e f g i =
      let h : number_at k < length a = omega (arith, s.held, d.0) in
      let began = number-other a k rows_begun v d.2 in
      let rows : (u : ℕ) → u < threads → rows_in (with_number a k v) u ≡ rows_in a u =
      λ u b. number-other a k (rows_of u) v (d.3 u b) in
      record {
        held = number-kept a k v ∙ s.held;
        runs = rw (number-other a k active_thread v d.1) s.runs;
        rows = five-same (rows_in a) (rows_in (with_number a k v)) rows ∙ s.rows ∙ sym began;
        limit = rw began s.limit;
        entries = e ∙ sym began;
        counts = λ c b. rw began (after (λ (x : ℕ). x + of_all owing' ≤ 1 + number a rows_begun) a k (count c) v h (f c b).0 (f c b).1);
        yielded = λ u b. rw (rows u b) (after (λ (x : ℕ). x + owing' u ≤ rows_in a u) a k (yields u) v h (g u b).0 (g u b).1);
        lasts = λ u b. after (Or none (most' u)) a k (last_yield u) v h (i u b).0 (i u b).1;
      }

  pub aside : (k : Number) (v : ℕ) → Apart k → NumbersBounded p n owing most (with_number a k v)
  aside k v d =
      wrote k v d.0 s.entries (λ c b. (λ e. absurd (d.2 c b e), λ e. s.counts c b))
      (λ u b. (λ e. absurd ((d.1 u b).0 e), λ e. s.yielded u b)) (λ u b. (λ e. absurd ((d.1 u b).1 e), λ e. s.lasts u b))

  -- a thread's last yield
  pub last-yield : (t v : ℕ) → t < threads → Or none (most t) v → NumbersBounded p n owing most (with_number a (last_yield t) v)
  last-yield t v b l =
      wrote (last_yield t) v (omega arith) s.entries (λ c h. (omega arith, λ e. s.counts c h))
      (λ u h. (omega arith, λ e. s.yielded u h))
      (λ u h. (λ e. let q : u ≡ t = omega arith in rw q l, λ e. s.lasts u h))

  -- so much is owed, and versions have come so far
  pub re-owed : {m : ℕ} (owing' most' : ℕ → ℕ) → m + of_all owing' ≡ number a rows_begun →
      ((u : ℕ) → u < threads → owing' u ≤ owing u) → ((u : ℕ) → u < threads → most u ≤ most' u) → NumbersBounded p m owing' most' a
  re-owed owing' most' e f g = record {
    held = s.held;
    runs = s.runs;
    rows = s.rows;
    limit = s.limit;
    entries = e;
    counts = λ c b. omega (
      arith,
      s.counts c b,
      f 0 (omega arith),
      f 1 (omega arith),
      f 2 (omega arith),
      f 3 (omega arith),
      f 4 (omega arith),
    );
    yielded = λ u b. omega (arith, s.yielded u b, f u b);
    lasts = λ u b. none-later (g u b) (s.lasts u b);
  }

  -- another thread is the active one
  pub activates : (t : ℕ) → t < threads → NumbersBounded p n owing most (with_number a active_thread t)
  activates t b =
      let k = active_thread in
      let rows : (u : ℕ) → u < threads → rows_in (with_number a k t) u ≡ rows_in a u =
      λ u h. number-other a k (rows_of u) t (omega arith) in
      let began = number-other a k rows_begun t (omega arith) in
      record {
        held = number-kept a k t ∙ s.held;
        runs = rw (number_same a k t (omega (arith, s.held))) b;
        rows = five-same (rows_in a) (rows_in (with_number a k t)) rows ∙ s.rows ∙ sym began;
        limit = rw began s.limit;
        entries = s.entries ∙ sym began;
        counts = λ c h. rw (number-other a k (count c) t (omega arith), began) (s.counts c h);
        yielded = λ u h. rw (number-other a k (yields u) t (omega arith), rows u h) (s.yielded u h);
        lasts = λ u h. rw (number-other a k (last_yield u) t (omega arith)) (s.lasts u h);
      }

  -- The row of a thread acts, which owes one no longer
  module _ (t : ℕ) (below : t < threads) (owes : owing t ≡ 1) where
    less-owed : n + 1 + of_all (but t owing) ≡ number a rows_begun
    less-owed = omega (arith, s.entries, of_all-given owing t 0 below)

    pub acted : NumbersBounded p (n + 1) (but t owing) most a
    acted =
        re-owed (but t owing) most less-owed (λ u b. of-given (λ (x : ℕ). x ≤ owing u) t 0 owing u (λ e. omega arith)
        (λ d. omega arith)) (λ u b. omega arith)

    -- with one more store
    pub stored : (c : ℕ) → c < cells → NumbersBounded p (n + 1) (but t owing) most (with_number a (count c) (one_more (number a (count c))))
    stored c b =
        wrote (count c) _ (omega arith) less-owed
        (λ d h. (λ e. omega (arith, (more-some (number a (count c))).1, s.counts c b, of_all-given owing t 0 below), λ e. acted.counts d h))
        (λ u h. (omega arith, λ e. acted.yielded u h)) (λ u h. (λ e. absurd (omega arith), λ e. s.lasts u h))

    -- with one more yield
    pub yields-once : NumbersBounded p (n + 1) (but t owing) most (with_number a (yields t) (one_more (number a (yields t))))
    yields-once =
        wrote (yields t) _ (omega arith) less-owed (λ c h. (omega arith, λ e. acted.counts c h))
        (λ u h. (
          λ e. let q : u ≡ t = omega arith in
              rw q (omega (arith, (more-some (number a (yields t))).1, s.yielded t below, given-own t 0 owing)),
          λ e. acted.yielded u h,
        ))
        (λ u h. (λ e. absurd (omega arith), λ e. s.lasts u h))

  -- A row begins: its thread owes one, and has one row more
  module _ (t : ℕ) (below : t < threads) (owes : owing t ≡ 0) (limited : p.operations ≤ largest)
      (some : number a rows_begun < p.operations) where
    pub began : number (more_rows a t) rows_begun ≡ number a rows_begun + 1
    began =
        number-other (counted a) (rows_of t) rows_begun _ (omega arith)
        ∙ number_same a rows_begun _ (omega (arith, s.held))
        ∙ more-below (number a rows_begun) (omega arith)

    pub one-row : one_more (number (counted a) (rows_of t)) ≡ rows_in a t + 1
    one-row =
        ap one_more (number-other a rows_begun (rows_of t) _ (omega arith))
        ∙ more-below (rows_in a t) (omega (arith, five-has (rows_in a) t below, s.rows))

    own-rows : rows_in (more_rows a t) t ≡ rows_in a t + 1
    own-rows =
        number_same (counted a) (rows_of t) _ (omega (arith, s.held, number-kept a rows_begun (one_more (number a rows_begun)))) ∙ one-row

    -- what is under another name stays
    stays : (j : Number) → number_at j ≢ number_at rows_begun → number_at j ≢ number_at (rows_of t) → number (more_rows a t) j ≡ number a j
    stays j d e = number-other (counted a) (rows_of t) j _ e ∙ number-other a rows_begun j _ d

    pub other-rows : (u : ℕ) → u < threads → u ≢ t → rows_in (more_rows a t) u ≡ rows_in a u
    other-rows u h d = stays (rows_of u) (omega arith) (omega arith)

    pub begins : NumbersBounded p n (given t 1 owing) most (more_rows a t)
    begins =
        let all = of_all-given owing t 1 below in
        record {
          held = kept ∙ s.held;
          runs = rw (stays active_thread (omega arith) (omega arith)) s.runs;
          rows = omega (arith, five-one (rows_in a) (rows_in (more_rows a t)) t below other-rows, own-rows, began, s.rows);
          limit = omega (arith, began);
          entries = omega (arith, s.entries, began);
          counts = λ c h. omega (arith, s.counts c h, began, stays (count c) (omega arith) (omega arith));
          yielded = λ u h. rw (stays (yields u) (omega arith) (omega arith)) (yielded-now u h);
          lasts = λ u h. rw (stays (last_yield u) (omega arith) (omega arith)) (s.lasts u h);
        }
      where
        kept : length (more_rows a t) ≡ length a
        kept = number-kept (counted a) (rows_of t) _ ∙ number-kept a rows_begun _

        yielded-now : (u : ℕ) → u < threads → number a (yields u) + given t 1 owing u ≤ rows_in (more_rows a t) u
        yielded-now u h =
            of-given (λ (x : ℕ). number a (yields u) + x ≤ rows_in (more_rows a t) u) t 1 owing u
            (λ e. rw e (omega (arith, own-rows, s.yielded t below)))
            (λ d. omega (arith, other-rows u h d, s.yielded u h))

-- What the numbers say of each thread

-- thread t is active; each thread's rows, what it owes, and at most what it waits for
pub record Links (t : ℕ) (rows owing waits : ℕ → ℕ) (a : Numbers) : Type 0 where
  pub held : length a ≡ numbers_held
  pub runs : number a active_thread ≡ t
  pub begun_rows : (u : ℕ) → u < threads → rows_in a u ≡ rows u
  pub owes : (u : ℕ) → u < threads → owed a u ≡ owing u
  pub pends : (u : ℕ) → u < threads → waiting a u ≤ waits u

abbrev pub owe : ℕ → ℕ
owe x = cond (eqb x to_begin) 0 1

abbrev pub wait : ℕ → ℕ
wait x = cond (eqb x no_operation) 0 1

pub wait-most : (x : ℕ) → wait x ≤ 1
wait-most x = pick (λ (y : ℕ). y ≤ 1) (eqb x no_operation) (λ e. omega arith) (λ e. omega arith)

-- names that links do not read
abbrev pub Unlinked : Number → Type 0
Unlinked k =
    (number_at active_thread ≢ number_at k)
    × ((u : ℕ) → u < threads → (number_at (rows_of u) ≢ number_at k) × (number_at (phase u) ≢ number_at k) ×
    (number_at (operation u) ≢ number_at k))

module _ {t : ℕ} {rows owing waits : ℕ → ℕ} (a : Numbers) (l : Links t rows owing waits a) where
  linked : (k : Number) (v : ℕ) {t' : ℕ} {rows' owing' waits' : ℕ → ℕ} → number_at k < numbers_held →
      Becomes a k v active_thread (λ (x : ℕ). x ≡ t') →
      ((u : ℕ) → u < threads → Becomes a k v (rows_of u) (λ (x : ℕ). x ≡ rows' u)) →
      ((u : ℕ) → u < threads → Becomes a k v (phase u) (λ (x : ℕ). owe x ≡ owing' u)) →
      ((u : ℕ) → u < threads → Becomes a k v (operation u) (λ (x : ℕ). wait x ≤ waits' u)) → Links t' rows' owing' waits'
      (with_number a k v)
  linked k v {t'} {rows'} {owing'} {waits'} d f g i j =
      let h : number_at k < length a = omega (arith, l.held) in
      record {
        held = number-kept a k v ∙ l.held;
        runs = after (λ (x : ℕ). x ≡ t') a k active_thread v h f.0 f.1;
        begun_rows = λ u b. after (λ (x : ℕ). x ≡ rows' u) a k (rows_of u) v h (g u b).0 (g u b).1;
        owes = λ u b. after (λ (x : ℕ). owe x ≡ owing' u) a k (phase u) v h (i u b).0 (i u b).1;
        pends = λ u b. after (λ (x : ℕ). wait x ≤ waits' u) a k (operation u) v h (j u b).0 (j u b).1;
      }

  pub aside-links : (k : Number) (v : ℕ) → number_at k < numbers_held → Unlinked k → Links t rows owing waits (with_number a k v)
  aside-links k v h d =
      linked k v h (λ e. absurd (d.0 e), λ e. l.runs) (λ u b. (λ e. absurd ((d.1 u b).0 e), λ e. l.begun_rows u b))
      (λ u b. (λ e. absurd ((d.1 u b).1 e), λ e. l.owes u b)) (λ u b. (λ e. absurd ((d.1 u b).2 e), λ e. l.pends u b))

  pub runs-now : (s : ℕ) → Links s rows owing waits (with_number a active_thread s)
  runs-now s =
      linked active_thread s (omega arith) (λ e. refl, λ e. absurd (e refl)) (λ u b. (omega arith, λ e. l.begun_rows u b))
      (λ u b. (λ e. absurd (omega arith), λ e. l.owes u b)) (λ u b. (λ e. absurd (omega arith), λ e. l.pends u b))

  -- a thread's own numbers
  module _ (s : ℕ) (below : s < threads) where
    pub phase-now : (v : ℕ) → Links t rows (given s (owe v) owing) waits (with_number a (phase s) v)
    phase-now v =
        linked (phase s) v (omega arith) (omega arith, λ e. l.runs) (λ u b. (omega arith, λ e. l.begun_rows u b))
        (λ u b. (
          λ e. let q : u ≡ s = omega arith in rw (q, given-own s (owe v) owing) refl,
          λ e. l.owes u b ∙ sym (given-other s (owe v) owing u (omega arith)),
        ))
        (λ u b. (λ e. absurd (omega arith), λ e. l.pends u b))

    pub operation-now : (v w : ℕ) → wait v ≤ w → Links t rows owing (given s w waits) (with_number a (operation s) v)
    operation-now v w h =
        linked (operation s) v (omega arith) (omega arith, λ e. l.runs) (λ u b. (omega arith, λ e. l.begun_rows u b))
        (λ u b. (λ e. absurd (omega arith), λ e. l.owes u b))
        (λ u b. (
          λ e. let q : u ≡ s = omega arith in rw (q, given-own s w waits) h,
          λ e. rw (given-other s w waits u (omega arith)) (l.pends u b),
        ))

    pub rows-now : (v : ℕ) → Links t (given s v rows) owing waits (with_number a (rows_of s) v)
    rows-now v =
        linked (rows_of s) v (omega arith) (omega arith, λ e. l.runs)
        (λ u b. (
          λ e. let q : u ≡ s = omega arith in rw (q, given-own s v rows) refl,
          λ e. l.begun_rows u b ∙ sym (given-other s v rows u (omega arith)),
        ))
        (λ u b. (λ e. absurd (omega arith), λ e. l.owes u b)) (λ u b. (λ e. absurd (omega arith), λ e. l.pends u b))
