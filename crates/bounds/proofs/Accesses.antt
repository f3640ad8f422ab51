-- What the accesses of a cell and the fences do to vectors and marks: parts only join, so whatever holds of each part is kept.
-- Assumes nothing.
--     load-synced, store-synced, .-tracked, coherent-since, with-store, fenced-since       each change of the vectors
--     Sound                the vectors and marks of a state
--     with-clocks          its vectors changed
--     sighted-sound, stored-sound                a slot that is read, a new store
use Prim.Native.Nat.{ℕ, zero, suc, ◌+◌, ◌≤◌, ◌<◌}
use mathlib.Core.List.{List}
use mathlib.Core.Bool.{Bool, cond}
use mathlib.Core.Path.{◌≡◌, refl}
use native.Mathlib.Omega.{arith}
use lib.Dec.{eqb, ltb}
use Rattle.rules.specs.Vector.{joined}
use Rattle.rules.specs.Seen.{touched_at, unseens}
use Rattle.rules.specs.State.{State, Clocks, Marks, Numbers, Vector, vector, number, marks_of, threads, cells, plains, history, store_at}
use Rattle.rules.specs.State.{causality, released, seq_cst, loaded, unsync_loaded, stored, mutated, happens_before, modification_order, sync, read_access, write_access, count}
use Rattle.rules.specs.Cell as Cell
use Rattle.rules.specs.Cell.{version, with_clocks, live_stores, live_in, slot_of, store_done, sighted, Race, no_race, race_of}
use Rattle.rules.specs.Plain as Plain
use Rattle.rules.proofs.StateLaws.{InVectors}
use Rattle.rules.proofs.SlotLaws.{live-most}
use Rattle.rules.proofs.MeasureRows.{pick}
use Rattle.bounds.specs.Bounds.{Counter, of_versions, counter_of, Sights}
use Rattle.bounds.proofs.Parts.{Fit, joined-fit, Since, fit_of, put, join-into, now, lowered}
use Rattle.bounds.proofs.Marks.{later, row_of, row-set, touched-row, unseen-row}

-- the k-th oldest store is live
oldest-live : (n k : ℕ) → k < live_stores n → Cell.kth_oldest n k < history
oldest-live n k h =
    pick (λ (x : ℕ). x < history) (ltb n history) (λ e. omega (arith, live-most n)) (λ e. omega arith)

module _ {P : Counter → ℕ → ℕ → Type 0} where
  module _ {least : ℕ → ℕ} (t : ℕ) (below : t < threads) where
    recorded-since : (r : Race) (clocks : Clocks) (v : Vector) → InVectors v → of_versions ≡ counter_of v → Since P least clocks →
        Since P least (Cell.recorded r clocks v t)
    recorded-since no_race clocks v h e s = join-into clocks v (causality t) h below e s
    recorded-since (race_of kind other) clocks v h e s = s

    -- of a plain cell
    module _ (c : ℕ) (on : c < plains) where
      pub plain-read-tracked : (clocks : Clocks) → Since P least clocks → Since P least (Plain.plain_read_tracked clocks t c)
      unfolding Plain.plain_read_tracked
      plain-read-tracked clocks s = recorded-since (Plain.plain_read_race clocks t c) clocks (read_access c) on refl s

      pub plain-write-tracked : (clocks : Clocks) → Since P least clocks → Since P least (Plain.plain_write_tracked clocks t c)
      unfolding Plain.plain_write_tracked
      plain-write-tracked clocks s = recorded-since (Plain.plain_write_race clocks t c) clocks (write_access c) on refl s

  module _ {least : ℕ → ℕ} (t c : ℕ) (below : t < threads) (on : c < cells) where
    pub load-synced : (clocks : Clocks) (store o : ℕ) → store < 28 → Since P least clocks →
        Since P least (Cell.load_synced clocks t store o)
    unfolding Cell.load_synced
    load-synced clocks store o h s =
        pick (Since P least) (Cell.acquires o) (λ e. join-into clocks (causality t) (sync store) below h refl s) (λ e. s)

    pub store-synced : (clocks : Clocks) (from : List ℕ) (o : ℕ) → Since P least clocks → Fit (P of_versions) from →
        Fit (P of_versions) (Cell.store_synced clocks t from o)
    unfolding Cell.store_synced
    store-synced clocks from o s f =
        let once = joined-fit (P of_versions) _ _ f (fit_of clocks (released t) below s) in
        pick (Fit (P of_versions)) (Cell.releases o) (λ e. joined-fit (P of_versions) _ _ once (fit_of clocks (causality t) below s))
        (λ e. once)

    pub load-tracked : (clocks : Clocks) → Since P least clocks → Since P least (Cell.load_tracked clocks t c)
    unfolding Cell.load_tracked
    load-tracked clocks s = recorded-since t below (Cell.load_race clocks t c) clocks (loaded c) on refl s

    pub unsync-tracked : (clocks : Clocks) → Since P least clocks → Since P least (Cell.unsync_load_tracked clocks t c)
    unfolding Cell.unsync_load_tracked
    unsync-tracked clocks s = recorded-since t below (Cell.unsync_load_race clocks t c) clocks (unsync_loaded c) on refl s

    pub store-tracked : (clocks : Clocks) → Since P least clocks → Since P least (Cell.store_tracked clocks t c)
    unfolding Cell.store_tracked
    store-tracked clocks s = recorded-since t below (Cell.store_race clocks t c) clocks (stored c) on refl s

    pub mut-tracked : (clocks : Clocks) → Since P least clocks → Since P least (Cell.mut_tracked clocks t c)
    unfolding Cell.mut_tracked
    mut-tracked clocks s = recorded-since t below (Cell.mut_race clocks t c) clocks (mutated c) on refl s

    -- an order takes in others
    with-order : (clocks : Clocks) (b : Bool) (so : List ℕ) (i : ℕ) → i < history → Since P least clocks → Fit (P of_versions) so →
        Fit (P of_versions) (cond b (joined so (Cell.order_of clocks c i)) so)
    with-order clocks b so i h s f =
        pick (Fit (P of_versions)) b (λ e. joined-fit (P of_versions) _ _ f (fit_of clocks (modification_order (store_at c i)) (omega arith) s))
        (λ e. f)

    coherent-from : (clocks : Clocks) (rows : List (List ℕ)) (slot : ℕ) (so : List ℕ) (n i : ℕ) → i + n ≤ history →
        Since P least clocks →
        Fit (P of_versions) so → Fit (P of_versions) (Cell.coherent_from clocks rows t c slot so n i)
    unfolding Cell.coherent_from
    coherent-from clocks rows slot so zero i h s f = f
    coherent-from clocks rows slot so (suc n) i h s f =
        let b = Cell.coheres clocks rows t c slot i in
        coherent-from clocks rows slot (cond b (joined so (Cell.order_of clocks c i)) so) n (i + 1) (omega arith) s
        (with-order clocks b so i (omega arith) s f)

    pub coherent-since : (clocks : Clocks) (rows : List (List ℕ)) (numbers : Numbers) (slot : ℕ) → slot < history →
        Since P least clocks →
        Since P least (Cell.coherent clocks rows numbers t c slot)
    unfolding Cell.coherent
    coherent-since clocks rows numbers slot h s =
        put clocks (modification_order (store_at c slot)) _ (omega arith) s
        (coherent-from clocks rows slot _ (live_in numbers c) 0 (omega (arith, live-most (number numbers (count c)))) s
        (fit_of clocks (modification_order (store_at c slot)) (omega arith) s))
        (λ u b e. absurd (omega arith))

    order_from : (clocks : Clocks) (rows : List (List ℕ)) (so : List ℕ) (n i : ℕ) → i + n ≤ history → Since P least clocks →
        Fit (P of_versions) so → Fit (P of_versions) (Cell.store_order_from clocks rows t c so n i)
    unfolding Cell.store_order_from
    order_from clocks rows so zero i h s f = f
    order_from clocks rows so (suc n) i h s f =
        let b = Cell.seen_by clocks rows t i in
        order_from clocks rows (cond b (joined so (Cell.order_of clocks c i)) so) n (i + 1) (omega arith) s
        (with-order clocks b so i (omega arith) s f)

    store-order : (clocks : Clocks) (rows : List (List ℕ)) (cnt : ℕ) → Since P least clocks →
        Fit (P of_versions) (Cell.store_order clocks rows cnt t c)
    unfolding Cell.store_order
    store-order clocks rows cnt s =
        order_from clocks rows _ (live_stores cnt) 0 (omega (arith, live-most cnt)) s (fit_of clocks (causality t) below s)

    -- a new store's three vectors
    pub with-store : (clocks : Clocks) (rows : List (List ℕ)) (cnt slot : ℕ) (from : List ℕ) (o : ℕ) → slot < history →
        Since P least clocks →
        Fit (P of_versions) from →
        Since P least
        (Cell.with_store clocks (store_at c slot) (vector clocks (causality t)) (Cell.store_order clocks rows cnt t c)
        (Cell.store_synced clocks t from o))
    with-store clocks rows cnt slot from o h s f =
        let one = put clocks (happens_before (store_at c slot)) _ (omega arith) s (fit_of clocks (causality t) below s)
        (λ u b e. absurd (omega arith)) in
        let two = put _ (modification_order (store_at c slot)) _ (omega arith) one (store-order clocks rows cnt s)
        (λ u b e. absurd (omega arith)) in
        put _ (sync (store_at c slot)) _ (omega arith) two (store-synced clocks from o s f) (λ u b e. absurd (omega arith))

    -- "stores oldest first"
    acquired-from : (clocks : Clocks) (rows : List (List ℕ)) (cnt n k : ℕ) → k + n ≤ live_stores cnt → Since P least clocks →
        Since P least (Cell.acquired_from clocks rows cnt t c n k)
    unfolding Cell.acquired_from
    acquired-from clocks rows cnt zero k h s = s
    acquired-from clocks rows cnt (suc n) k h s =
        acquired-from
        (cond (Cell.seen_by clocks rows t (Cell.kth_oldest cnt k))
        (Cell.join_into clocks (causality t) (sync (store_at c (Cell.kth_oldest cnt k)))) clocks) rows cnt n (k + 1) (omega arith)
        (pick (Since P least) (Cell.seen_by clocks rows t (Cell.kth_oldest cnt k))
        (λ e. join-into clocks (causality t) (sync (store_at c (Cell.kth_oldest cnt k))) below
        (omega (arith, oldest-live cnt k (omega arith))) refl s)
        (λ e. s))

    cell-acquired : (clocks : Clocks) (rows : List (List ℕ)) (cnt : ℕ) → Since P least clocks →
        Since P least (Cell.cell_acquired clocks rows cnt t c)
    unfolding Cell.cell_acquired
    cell-acquired clocks rows cnt s = acquired-from clocks rows cnt (live_stores cnt) 0 (omega arith) s

  module _ {least : ℕ → ℕ} (t : ℕ) (below : t < threads) where
    -- "cells in order"
    cells-acquired : (clocks : Clocks) (marks : Marks) (numbers : Numbers) (n c : ℕ) → c + n ≤ cells → Since P least clocks →
        Since P least (Cell.cells_acquired clocks marks numbers t n c)
    unfolding Cell.cells_acquired
    cells-acquired clocks marks numbers zero c h s = s
    cells-acquired clocks marks numbers (suc n) c h s =
        cells-acquired (Cell.cell_acquired clocks (marks_of marks c) (number numbers (count c)) t c) marks numbers n (c + 1)
        (omega arith) (cell-acquired t c below (omega arith) clocks _ _ s)

    released-since : (clocks : Clocks) → Since P least clocks → Since P least (Cell.fence_released clocks t)
    unfolding Cell.fence_released
    released-since clocks s =
        put clocks (released t) _ below s (fit_of clocks (causality t) below s) (λ u b e. absurd (omega arith))

    seq-cst-since : (clocks : Clocks) → Since P least clocks → Since P least (Cell.fence_seq_cst clocks t)
    unfolding Cell.fence_seq_cst
    seq-cst-since clocks s =
        join-into _ seq_cst (causality t) tt below refl (join-into clocks (causality t) seq_cst below tt refl s)

    pub fenced-since : (clocks : Clocks) (marks : Marks) (numbers : Numbers) (n o : ℕ) → n ≤ cells → Since P least clocks →
        Since P least (Cell.fenced clocks marks numbers t n o)
    unfolding Cell.fenced Cell.fence_acquired
    fenced-since clocks marks numbers n o h s =
        let acquired = cells-acquired clocks marks numbers n 0 (omega arith) s in
        pick (Since P least) (eqb o 1) (λ e. released-since clocks s)
        (λ e. pick (Since P least) (eqb o 2) (λ f. acquired)
        (λ f. pick (Since P least) (eqb o 3) (λ g. released-since _ acquired)
        (λ g. pick (Since P least) (eqb o 4) (λ i. seq-cst-since _ (released-since _ acquired)) (λ i. s))))

-- A state's vectors and marks, where versions have come at least so far
pub record SoundIn (P : Counter → ℕ → ℕ → Type 0) (least : ℕ → ℕ) (parts : Clocks) (marks : Marks) : Type 0 where
  pub clocks : Since P least parts
  pub sights : Sights (version parts) marks

abbrev pub Sound : (P : Counter → ℕ → ℕ → Type 0) → (ℕ → ℕ) → State → Type 0
Sound P least st = SoundIn P least st.clocks st.marks

module _ {P : Counter → ℕ → ℕ → Type 0} {least : ℕ → ℕ} where
  -- what is shown of changed vectors from the versions that there are
  pub with-clocks : (st : State) (clocks : Clocks) → Sound P least st →
      (Since P (version st.clocks) st.clocks → Since P (version st.clocks) clocks) →
      Sound P least (with_clocks st clocks)
  with-clocks st clocks s f =
      let after = f (now st.clocks s.clocks) in
      record { clocks = lowered clocks s.clocks.since after; sights = later st.marks after.since s.sights }

  module _ (t c : ℕ) (below : t < threads) (on : c < cells) where
    -- "race (14); coherence; touch"
    pub sighted-sound : (st : State) (slot : ℕ) → slot < history → Sound P least st → Sound P least (sighted st t c slot)
    unfolding sighted Cell.touch_done touched_at
    sighted-sound st slot h s =
        let clocks = Cell.coherent (Cell.load_tracked st.clocks t c) (marks_of st.marks c) st.numbers t c slot in
        let after = with-clocks st clocks s (λ k. coherent-since t c below on _ _ st.numbers slot h
        (load-tracked t c below on st.clocks k)) in
        record {
          clocks = after.clocks;
          sights = row-set st.marks c slot _ on h
              (touched-row _ t (version clocks t) below (omega arith) (row_of st.marks c slot on h after.sights))
              after.sights;
        }

    pub stored-sound : (st : State) (from : List ℕ) (v o : ℕ) → Fit (P of_versions) from → Sound P least st →
        Sound P least (store_done st t c from v o)
    unfolding store_done
    stored-sound st from v o f s =
        let n = number st.numbers (count c) in
        let rows = marks_of st.marks c in
        let clocks = Cell.with_store st.clocks (store_at c (slot_of n)) (vector st.clocks (causality t))
        (Cell.store_order st.clocks rows n t c) (Cell.store_synced st.clocks t from o) in
        let grown = with-store t c below on st.clocks rows n (slot_of n) from o (omega arith) (now st.clocks s.clocks) f in
        let after = with-clocks st clocks s (λ k. grown) in
        record {
          clocks = after.clocks;
          sights = row-set st.marks c (slot_of n) _ on (omega arith)
              (touched-row (unseens threads) t (version st.clocks t) below (grown.since t below) unseen-row) after.sights;
        }
