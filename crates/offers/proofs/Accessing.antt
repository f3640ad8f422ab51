-- What an access leaves, where a race stops it and where none does: what was seen stays so, and what is read is seen. Assumes
-- nothing.
--     Accessed                                         what is said of an access
--     load-accessed, rmw-accessed                      of a slot
--     unsync-accessed, mut-accessed                    of the newest store
--     plain-read-accessed, plain-write-calm            of a plain cell
use Prim.Native.Nat.{ℕ, ◌≤◌, ◌<◌}
use mathlib.Core.Path.{refl}
use mathlib.Core.Logic.{◌⊎◌, inl, inr}
use native.Mathlib.Omega.{arith}
use native.Mathlib.Decide.{ℕ_discrete}
use lib.ListN.{length}
use Rattle.rules.specs.Change.{Change, Changed, success, failure, applied}
use Rattle.rules.specs.Seen.{unseen}
use Rattle.rules.specs.State.{State, number, vector, vector_at, value, of_store, store_at, threads, count, causality, sync, stored, unsync_loaded, mutated, read_access, write_access}
use Rattle.rules.specs.Cell
use Rattle.rules.specs.Cell.{AccessResult, raced, read, Race, no_race, race_of, unless_race, slot_of, with_clocks, by_change}
use Rattle.rules.specs.Plain
use Rattle.offers.specs.Seen.{Sees}
use Rattle.offers.proofs.Growing.{high, grows-trans, load-sync-grows, recorded-grows}
use Rattle.offers.proofs.Sight.{Stays, row_in, seen-stays}
use Rattle.offers.proofs.Steps.{SoundState, Quiet, Stores, Calm, Steps, calm-trans, calm_more, calm-clocks, calm-rest, calm-step, calm-before, sees-calm, sighted-calm, sighted-sees, store-steps}

-- a store was seen before a step of its own thread: it is seen after it, or another has taken its place, which is seen too
pub sees-steps : (t n m : ℕ) {a b : State} (c i : ℕ) → t < threads → m < unseen → Steps t n m a b → Sees a t c i → Sees b t c i
sees-steps t n m {a} {b} c i h few q e = go q.does
  where
    again : Stays (row_in a.marks c i) (row_in b.marks c i) → Sees b t c i
    again s =
        seen-stays (row_in a.marks c i) (row_in b.marks c i) (vector a.clocks (causality t))
        (vector b.clocks (causality t)) s
        (q.grows.grown t h) e

    stored : Stores t m a b → Sees b t c i
    stored s =
        elim (ℕ_discrete c s.cell) [
          | no d ↦ again (s.stays c i (λ f g. d f))
          | yes f ↦ elim (ℕ_discrete i (slot_of (number a.numbers (count s.cell)))) [
            | no d ↦ again (s.stays c i (λ f g. d g))
            | yes g ↦ rw (f, g) (s.sees few)
          ]
        ]

    go : Quiet a b ⊎ Stores t m a b → Sees b t c i
    go (inl s) = again (s.stays c i)
    go (inr s) = stored s

-- what an access of thread t leaves, from a state; what it reads is in this slot
module _ (t n : ℕ) (below : t < threads) (st : State) where
  abbrev pub Accessed : AccessResult → Type 0
  Accessed (raced kind other s) = Calm n n st s
  Accessed (read v s) = Steps t n n st s

  abbrev pub SeesRead : ℕ → ℕ → AccessResult → Type 0
  SeesRead c slot (raced kind other s) = Unit {0}
  SeesRead c slot (read v s) = Sees s t c slot

  unless-accessed : (r : Race) (s : State) (x : AccessResult) → Calm n n st s → Accessed x → Accessed (unless_race r s x)
  unless-accessed no_race s x q h = h
  unless-accessed (race_of kind other) s x q h = q

  unless-sees : (c slot : ℕ) (r : Race) (s : State) (x : AccessResult) → SeesRead c slot x → SeesRead c slot (unless_race r s x)
  unless-sees c slot no_race s x h = h
  unless-sees c slot (race_of kind other) s x h = tt

  -- a plain cell has neither marks nor a count
  pub plain-write-calm : (c v : ℕ) → Calm n n st (Plain.plain_write_done st t c v)
  unfolding Plain.plain_write_done Plain.plain_write_tracked
  plain-write-calm c v =
      let race = Plain.plain_write_race st.clocks t c in
      calm-trans (calm-clocks n n st _ (recorded-grows n st.clocks race (write_access c) t below))
      (calm-rest n (with_clocks st (Plain.plain_write_tracked st.clocks t c)) _ st.numbers (λ d h. refl))

  module _ (sound : SoundState n st) where
    same : Calm n n st st
    same = calm_more n n st (omega arith)

    -- of the newest store
    pub unsync-accessed : (c : ℕ) → Accessed (Cell.unsync_load_done st t c)
    unfolding Cell.unsync_load_done Cell.unsync_load_tracked
    unsync-accessed c =
        unless-accessed (Cell.unsync_load_race st.clocks t c) st _ same
        (calm-step
        (calm-clocks n n st _ (recorded-grows n st.clocks (Cell.unsync_load_race st.clocks t c)
        (unsync_loaded c) t below)) sound)

    pub plain-read-accessed : (c : ℕ) → Accessed (Plain.plain_read_done st t c)
    unfolding Plain.plain_read_done Plain.plain_read_tracked
    plain-read-accessed c =
        let race = Plain.plain_read_race st.clocks t c in
        unless-accessed race st _ same
        (calm-step (calm-clocks n n st _ (recorded-grows n st.clocks race (read_access c) t below)) sound)

    pub mut-accessed : (c : ℕ) (change : Change) → Accessed (Cell.mut_done st t c change)
    unfolding Cell.mut_done Cell.mut_tracked
    mut-accessed c change =
        let tracked = calm-clocks n n st _ (recorded-grows n st.clocks (Cell.mut_race st.clocks t c) (mutated c) t below) in
        unless-accessed (Cell.mut_race st.clocks t c) st _ same
        (calm-step (calm-trans tracked (calm-rest n (with_clocks st (Cell.mut_tracked st.clocks t c)) _ st.numbers (λ d l. refl))) sound)

    module _ (c slot : ℕ) (on : c < 4) (within : slot < 7) where
      abbrev store : ℕ
      store = store_at c slot

      abbrev sighted_it : State
      sighted_it = Cell.sighted st t c slot

      sight : Calm n n st sighted_it
      sight = sighted-calm n st t c slot below on within

      loaded-calm : (o : ℕ) → Calm n n st (with_clocks sighted_it (Cell.load_synced sighted_it.clocks t store o))
      loaded-calm o = calm-trans sight (calm-clocks n n sighted_it _ (load-sync-grows n sighted_it.clocks t store o))

      pub load-accessed : (o : ℕ) → Accessed (Cell.load_done st t c slot o)
      unfolding Cell.load_done
      load-accessed o = unless-accessed (Cell.load_race st.clocks t c) st _ same (calm-step (loaded-calm o) sound)

      pub load-sees : (o : ℕ) → n < unseen → SeesRead c slot (Cell.load_done st t c slot o)
      unfolding Cell.load_done
      load-sees o few =
          unless-sees c slot (Cell.load_race st.clocks t c) st (read _ _)
          (sees-calm (calm-clocks n n sighted_it _ (load-sync-grows n sighted_it.clocks t store o)) t c slot below
          (sighted-sees n st t c slot below on within sound few))

      -- "An RMW that succeeds checks the store race after touching, then syncs by success order"
      module _ (o : ℕ) (long : 44 ≤ length st.numbers) where
        abbrev tracked : State
        tracked = with_clocks sighted_it (Cell.load_synced (Cell.store_tracked sighted_it.clocks t c) t store o)

        tracked-calm : Calm n n sighted_it tracked
        unfolding Cell.store_tracked
        tracked-calm =
            calm-clocks n n sighted_it _
            (grows-trans (recorded-grows n sighted_it.clocks (Cell.store_race sighted_it.clocks t c) (stored c) t below)
            (load-sync-grows n _ t store o))

        stored-steps : (new : ℕ) → Steps t n n tracked (Cell.store_done tracked t c (vector tracked.clocks (sync store)) new o)
        unfolding Cell.sighted
        stored-steps new =
            store-steps n tracked t c (vector tracked.clocks (sync store)) new o below on long
            (tracked-calm.sound (sight.sound sound)) (λ b. b (vector_at (sync store)) (high (omega arith)))

      change-accessed : (x : Changed) (v o f : ℕ) → 44 ≤ length st.numbers → Accessed (by_change x sighted_it t c store v o f)
      unfolding Cell.succeeded
      change-accessed (success new) v o f long =
          unless-accessed (Cell.store_race sighted_it.clocks t c) sighted_it _ sight
          (calm-before t n n n below (calm-trans sight (tracked-calm o long)) (stored-steps o long new))
      change-accessed failure v o f long = calm-step (loaded-calm f) sound

      change-sees : (x : Changed) (v o f : ℕ) → 44 ≤ length st.numbers → n < unseen →
          SeesRead c slot (by_change x sighted_it t c store v o f)
      unfolding Cell.succeeded
      change-sees (success new) v o f long few =
          unless-sees c slot (Cell.store_race sighted_it.clocks t c) sighted_it (read _ _)
          (sees-steps t n n c slot below few (stored-steps o long new)
          (sees-calm (tracked-calm o long) t c slot below (sighted-sees n st t c slot below on within sound few)))
      change-sees failure v o f long few =
          sees-calm (calm-clocks n n sighted_it _ (load-sync-grows n sighted_it.clocks t store f)) t c slot below
          (sighted-sees n st t c slot below on within sound few)

      pub rmw-accessed : (change : Change) (o f : ℕ) → 44 ≤ length st.numbers → Accessed (Cell.rmw_done st t c slot change o f)
      unfolding Cell.rmw_done
      rmw-accessed change o f long =
          let v = value st.values (of_store store) in
          unless-accessed (Cell.load_race st.clocks t c) st (by_change (applied change v) sighted_it t c store v o f) same
          (change-accessed (applied change v) v o f long)

      pub rmw-sees : (change : Change) (o f : ℕ) → 44 ≤ length st.numbers → n < unseen →
          SeesRead c slot (Cell.rmw_done st t c slot change o f)
      unfolding Cell.rmw_done
      rmw-sees change o f long few =
          let v = value st.values (of_store store) in
          unless-sees c slot (Cell.load_race st.clocks t c) st (by_change (applied change v) sighted_it t c store v o f)
          (change-sees (applied change v) v o f long few)
