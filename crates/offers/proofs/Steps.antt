-- What a step of the machine does to the marks and to the cells' counts. Assumes nothing.
--     Quiet, Stores        a step at which no store is made, or one
--     Steps                and how the threads' vectors grow
--     store-steps          a store
--     sighted-calm, sighted-sees      a load's sight of its store: nothing else changes, and it is seen
use Prim.Native.Nat.{ℕ, ◌≤◌, ◌<◌}
use mathlib.Core.List.{List}
use mathlib.Core.Path.{◌≡◌, refl, ap, sym, ◌∙◌}
use mathlib.Core.Logic.{◌≢◌, ◌⊎◌, inl, inr}
use native.Mathlib.Omega.{arith}
use lib.ListN.{length}
use Rattle.rules.specs.Vector.{one_more}
use Rattle.rules.specs.Seen.{unseen}
use Rattle.rules.specs.State.{State, Clocks, Numbers, Values, number, with_number, marks_of, vector, store_at, threads, count, is_seq_cst, causality, loaded}
use Rattle.rules.specs.Cell
use Rattle.rules.specs.Cell.{slot_of, with_clocks, with_both, store_done}
use Rattle.rules.proofs.StateLaws.{number_same, number-other}
use Rattle.offers.specs.Seen.{Sees}
use Rattle.offers.proofs.Growing.{Bounded, Small, Grows, grows-refl, grows-more, grows-trans, store-grows, small-synced, recorded-grows, coherent-grows}
use Rattle.offers.proofs.Sight.{Stays, row_in, Sound, sound-grows, seen-stays, first-sound, first-sees, first-stays, touch-sound, touch-stays, touch-sees}

-- Counts

abbrev pub SameCounts : Numbers → Numbers → Type 0
SameCounts a b = (c : ℕ) → c < 4 → number b (count c) ≡ number a (count c)

-- Steps

abbrev pub SoundState : ℕ → State → Type 0
SoundState n st = Sound n st.clocks st.marks

-- no store is made
pub record Quiet (a b : State) : Type 0 where
  pub stays : (c i : ℕ) → Stays (row_in a.marks c i) (row_in b.marks c i)
  pub counts : SameCounts a.numbers b.numbers

-- thread t makes a store, which takes the next slot of a cell
pub record Stores (t n : ℕ) (a b : State) : Type 0 where
  pub cell : ℕ
  pub below : cell < 4
  pub stays : (c i : ℕ) → (c ≡ cell → i ≡ slot_of (number a.numbers (count cell)) → ⊥) →
      Stays (row_in a.marks c i) (row_in b.marks c i)
  pub one-more : number b.numbers (count cell) ≡ one_more (number a.numbers (count cell))
  pub counts : (c : ℕ) → c < 4 → c ≢ cell → number b.numbers (count c) ≡ number a.numbers (count c)
  pub sees : n < unseen → Sees b t cell (slot_of (number a.numbers (count cell)))

-- with the vectors bounded by n before and by m after
pub record Calm (n m : ℕ) (a b : State) : Type 0 where
  pub grows : Grows n m a.clocks b.clocks
  pub sound : SoundState n a → SoundState m b
  pub quiet : Quiet a b

pub record Steps (t n m : ℕ) (a b : State) : Type 0 where
  pub grows : Grows n m a.clocks b.clocks
  pub sound : SoundState m b
  pub does : Quiet a b ⊎ Stores t m a b

pub quiet-refl : (a : State) → Quiet a a
quiet-refl a = record { stays = λ c i k h. refl; counts = λ c h. refl }

stays-trans : (a b c : List ℕ) → Stays a b → Stays b c → Stays a c
stays-trans a b c p q k h = let e = p k h in q k (λ u. h (sym e ∙ u)) ∙ e

pub quiet-trans : {a b c : State} → Quiet a b → Quiet b c → Quiet a c
quiet-trans {a} {b} {c} p q = record {
  stays = λ d i. stays-trans (row_in a.marks d i) (row_in b.marks d i) (row_in c.marks d i) (p.stays d i) (q.stays d i);
  counts = λ d h. q.counts d h ∙ p.counts d h;
}

pub calm-trans : {n m l : ℕ} {a b c : State} → Calm n m a b → Calm m l b c → Calm n l a c
calm-trans {n} {m} {l} {a} {b} {c} p q = record {
  grows = grows-trans p.grows q.grows;
  sound = λ s. q.sound (p.sound s);
  quiet = quiet-trans p.quiet q.quiet;
}

-- Sight

pub sees-calm : {n m : ℕ} {a b : State} → Calm n m a b → (t c i : ℕ) → t < threads → Sees a t c i → Sees b t c i
sees-calm {n} {m} {a} {b} q t c i h e =
    seen-stays (row_in a.marks c i) (row_in b.marks c i) (vector a.clocks (causality t)) (vector b.clocks (causality t))
    (q.quiet.stays c i) (q.grows.grown t h) e

-- a step, with nothing more or a quiet step before or after it
pub calm-step : {t n m : ℕ} {a b : State} → Calm n m a b → SoundState n a → Steps t n m a b
calm-step q s = record { grows = q.grows; sound = q.sound s; does = inl q.quiet }

module _ (t n m l : ℕ) (below : t < threads) {a b c : State} where
  before-does : Quiet a b → Quiet b c ⊎ Stores t l b c → Quiet a c ⊎ Stores t l a c
  before-does p (inl q) = inl (quiet-trans p q)
  before-does p (inr q) =
      let e : number b.numbers (count q.cell) ≡ number a.numbers (count q.cell) = p.counts q.cell q.below in
      inr (record {
        cell = q.cell;
        below = q.below;
        stays = λ d i u.
            stays-trans (row_in a.marks d i) (row_in b.marks d i) (row_in c.marks d i) (p.stays d i)
            (q.stays d i (λ f g. u f (g ∙ ap slot_of e)));
        one-more = q.one-more ∙ ap one_more e;
        counts = λ d h u. q.counts d h u ∙ p.counts d h;
        sees = λ few. rw e at (q.sees few);
      })

  pub calm-before : Calm n m a b → Steps t m l b c → Steps t n l a c
  calm-before p q =
      record { grows = grows-trans p.grows q.grows; sound = q.sound; does = before-does p.quiet q.does }

module _ (t n m : ℕ) (below : t < threads) {a b c : State} (q : Calm m m b c) where
  after-does : Quiet a b ⊎ Stores t m a b → Quiet a c ⊎ Stores t m a c
  after-does (inl p) = inl (quiet-trans p q.quiet)
  after-does (inr p) = inr (record {
    cell = p.cell;
    below = p.below;
    stays = λ d i u.
        stays-trans (row_in a.marks d i) (row_in b.marks d i) (row_in c.marks d i) (p.stays d i u) (q.quiet.stays d i);
    one-more = q.quiet.counts p.cell p.below ∙ p.one-more;
    counts = λ d h u. q.quiet.counts d h ∙ p.counts d h u;
    sees = λ few. sees-calm q t p.cell (slot_of (number a.numbers (count p.cell))) below (p.sees few);
  })

  pub calm-after : Steps t n m a b → Steps t n m a c
  calm-after p = record { grows = grows-trans p.grows q.grows; sound = q.sound p.sound; does = after-does p.does }

-- Parts of a step

pub calm_more : (n m : ℕ) (st : State) → n ≤ m → Calm n m st st
calm_more n m st h = record {
  grows = grows-more n m st.clocks h;
  sound = sound-grows n m st.clocks st.clocks st.marks (grows-more n m st.clocks h);
  quiet = quiet-refl st;
}

pub calm-clocks : (n m : ℕ) (st : State) (clocks : Clocks) → Grows n m st.clocks clocks → Calm n m st (with_clocks st clocks)
calm-clocks n m st clocks g = record {
  grows = g;
  sound = sound-grows n m st.clocks clocks st.marks g;
  quiet = record { stays = λ c i k h. refl; counts = λ c h. refl };
}

-- numbers and values have no part in what is seen
pub calm-rest : (n : ℕ) (st : State) (values : Values) (numbers : Numbers) → SameCounts st.numbers numbers →
    Calm n n st (record { clocks = st.clocks; marks = st.marks; values = values; numbers = numbers })
calm-rest n st values numbers same = record {
  grows = grows-refl n st.clocks;
  sound = λ s. s;
  quiet = record { stays = λ c i k h. refl; counts = same };
}

-- "touch"
pub calm-touch : (n : ℕ) (st : State) (t c slot : ℕ) → t < threads →
    Calm n n st (with_both st st.clocks (Cell.touch_done st.clocks st.marks t c slot))
calm-touch n st t c slot h = record {
  grows = grows-refl n st.clocks;
  sound = touch-sound n st.clocks st.marks t c slot h;
  quiet = record { stays = touch-stays st.clocks st.marks t c slot; counts = λ d l. refl };
}

-- "race (14); coherence; touch"
module _ (n : ℕ) (st : State) (t c slot : ℕ) (h : t < threads) (k : c < 4) (l : slot < 7) where
  abbrev cohered : Clocks
  cohered = Cell.coherent (Cell.load_tracked st.clocks t c) (marks_of st.marks c) st.numbers t c slot

  cohered-grows : Grows n n st.clocks cohered
  unfolding Cell.load_tracked
  cohered-grows =
      grows-trans (recorded-grows n st.clocks (Cell.load_race st.clocks t c) (loaded c) t h)
      (coherent-grows n _ (marks_of st.marks c) st.numbers t c slot k l)

  pub sighted-calm : Calm n n st (Cell.sighted st t c slot)
  unfolding Cell.sighted
  sighted-calm = calm-trans (calm-clocks n n st cohered cohered-grows) (calm-touch n (with_clocks st cohered) t c slot h)

  pub sighted-sees : SoundState n st → n < unseen → Sees (Cell.sighted st t c slot) t c slot
  unfolding Cell.sighted
  sighted-sees s few =
      touch-sees n cohered st.marks t c slot h ((calm-clocks n n st cohered cohered-grows).sound s) k l few

-- A store
module _ (n : ℕ) (st : State) (t c : ℕ) (from : List ℕ) (v o : ℕ) (h : t < threads) (k : c < 4) where
  abbrev cnt : ℕ
  cnt = number st.numbers (count c)

  abbrev at : ℕ
  at = store_at c (slot_of cnt)

  stored_grows : (Bounded n st.clocks → Small n from) → Grows n n st.clocks (store_done st t c from v o).clocks
  unfolding store_done
  stored_grows small =
      store-grows n st.clocks t at (Cell.store_order st.clocks (marks_of st.marks c) cnt t c)
      (Cell.store_synced st.clocks t from o) h
      (omega arith) (λ b. small-synced n st.clocks t from o h b (small b))

  pub store-sound : SoundState n st → (Bounded n st.clocks → Small n from) → SoundState n (store_done st t c from v o)
  unfolding store_done
  store-sound s small =
      sound-grows n n st.clocks (store_done st t c from v o).clocks (store_done st t c from v o).marks (stored_grows small)
      (first-sound n st.clocks st.marks t c (slot_of cnt) h s)

  stored-count : 44 ≤ length st.numbers → number (store_done st t c from v o).numbers (count c) ≡ one_more cnt
  unfolding store_done
  stored-count long =
      number-other (with_number st.numbers (count c) (one_more cnt)) (is_seq_cst at) (count c) (Cell.seq_cst_flag o) (omega arith)
      ∙ number_same st.numbers (count c) (one_more cnt) (omega arith)

  other-count : (d : ℕ) → d < 4 → d ≢ c → number (store_done st t c from v o).numbers (count d) ≡ number st.numbers (count d)
  unfolding store_done
  other-count d l u =
      number-other (with_number st.numbers (count c) (one_more cnt)) (is_seq_cst at) (count d) (Cell.seq_cst_flag o) (omega arith)
      ∙ number-other st.numbers (count c) (count d) (one_more cnt) (omega arith)

  module _ (long : 44 ≤ length st.numbers) (s : SoundState n st) (small : Bounded n st.clocks → Small n from) where
    stored-sees : n < unseen → Sees (store_done st t c from v o) t c (slot_of cnt)
    unfolding store_done
    stored-sees few =
        let row = row_in (store_done st t c from v o).marks c (slot_of cnt) in
        seen-stays row row (vector st.clocks (causality t)) (vector (store_done st t c from v o).clocks (causality t))
        (λ x y. refl)
        ((stored_grows small).grown t h) (first-sees n st.clocks st.marks t c (slot_of cnt) h s k (omega arith) few)

    pub store-steps : Steps t n n st (store_done st t c from v o)
    unfolding store_done
    store-steps = record {
      grows = stored_grows small;
      sound = store-sound s small;
      does = inr (record {
        cell = c;
        below = k;
        stays = λ d i u. first-stays st.clocks st.marks t c (slot_of cnt) d i u;
        one-more = stored-count long;
        counts = other-count;
        sees = stored-sees;
      });
    }
