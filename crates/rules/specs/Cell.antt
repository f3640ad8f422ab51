-- An atomic cell: which stores a load may read, races, and what each access does: document 01, "`State`", "Sync" and "Match
-- for load". Every function takes the tables that it reads, and is defined on every table. Assumes nothing.
--     matched_load, matched_rmw        the offers, or that equal orders were met
--     load_done, rmw_done, store_done, unsync_load_done, mut_done       the accesses
--     fenced                         the fences
use Rattle.std.specs.Prelude.{ℕ, zero, suc, ◌+◌, ◌%◌, List, [], ◌∷◌, Bool, true, false, cond, not, ◌&&◌, ◌||◌, ltb, eqb, get_or, set}
use Rattle.rules.specs.Vector as Vectors
use Rattle.rules.specs.Vector.{joined, less, ahead, Whom, nobody, thread, one_more}
use Rattle.rules.specs.Change.{Change, Changed, success, failure, applied}
use Rattle.rules.specs.Seen.{seen, seen_before_yield, touched_at, touched, unseens}
use Rattle.rules.specs.Event.{Matched, offers}
use Rattle.rules.specs.Event as Event
use Rattle.rules.specs.State.{State, Clocks, Marks, Values, Numbers, Vector, vector, with_vector, marks_of, with_marks, value, with_value, number, with_number, store_at, history, threads}
use Rattle.rules.specs.State.{causality, released, seq_cst, loaded, unsync_loaded, stored, mutated, happens_before, modification_order, sync, of_store, count, is_seq_cst, last_yield}

-- Orders

-- "4 SeqCst"
abbrev pub seq_cst_order : ℕ
seq_cst_order = 4

-- "orders 2, 3, 4 join the store's sync vector into the thread"
abbrev pub acquires : ℕ → Bool
acquires o = eqb o 2 || eqb o 3 || eqb o 4

-- "for 1, 3, 4 join the thread too"
abbrev pub releases : ℕ → Bool
releases o = eqb o 1 || eqb o 3 || eqb o 4

-- Synchronisation

-- one vector takes another in
abbrev pub join_into : Clocks → Vector → Vector → Clocks
join_into clocks v w = with_vector clocks v (joined (vector clocks v) (vector clocks w))

-- "Load synchronisation: orders 2, 3, 4 join the store's sync vector into the thread."
unfoldable pub load_synced : Clocks → ℕ → ℕ → ℕ → Clocks
load_synced clocks t store o = cond (acquires o) (join_into clocks (causality t) (sync store)) clocks

-- "Store synchronisation: join released into sync; for 1, 3, 4 join the thread too."
unfoldable pub store_synced : Clocks → ℕ → List ℕ → ℕ → List ℕ
store_synced clocks t s o =
    cond (releases o)
    (joined (joined s (vector clocks (released t))) (vector clocks (causality t)))
    (joined s (vector clocks (released t)))

-- Which stores are offered

-- "Slot is cnt mod 7, live means slot < cnt.": so many slots are live, from slot 0 on
abbrev pub live_stores : ℕ → ℕ
live_stores n = cond (ltb n history) n history

abbrev pub live_in : Numbers → ℕ → ℕ
live_in numbers c = live_stores (number numbers (count c))

abbrev pub order_of : Clocks → ℕ → ℕ → List ℕ
order_of clocks c i = vector clocks (modification_order (store_at c i))

-- "j seen": the slot's store, by the thread's causality
abbrev pub seen_by : Clocks → List (List ℕ) → ℕ → ℕ → Bool
seen_by clocks rows t i = seen (get_or rows i []) (vector clocks (causality t))

-- "order, i and j all SeqCst"
abbrev pub all_seq_cst : Numbers → ℕ → ℕ → ℕ → ℕ → Bool
all_seq_cst numbers c i j o =
    eqb o seq_cst_order
    && eqb (number numbers (is_seq_cst (store_at c i))) 1
    && eqb (number numbers (is_seq_cst (store_at c j))) 1

-- what a scan says of a store
pub data Fate : Type 0 where
  kept : Fate
  dropped : Fate
  equal_met : Fate

-- "slot i is dropped at the first live j with order i < order j and (j seen, or ..)"; "13 exactly if some row i meets an equal
-- order at j before being dropped": there loom asserts that the orders differ, with the remark that this sometimes fails. Here
-- are the n slots from j on, i itself passed over [Q25]; what stands in the brackets is a test of j
unfoldable pub fate_from : Clocks → ℕ → ℕ → (ℕ → Bool) → ℕ → ℕ → Fate
fate_from clocks c i drops zero j = kept
fate_from clocks c i drops (suc n) j =
    elim (eqb j i) [
      | true ↦ fate_from clocks c i drops n (j + 1)
      | false ↦ elim (Vectors.equal (order_of clocks c i) (order_of clocks c j)) [
        | true ↦ equal_met
        | false ↦ elim (less (order_of clocks c i) (order_of clocks c j) && drops j) [
          | true ↦ dropped
          | false ↦ fate_from clocks c i drops n (j + 1)
        ]
      ]
    ]

-- "(j seen, or i seen by this thread no later than its last yield, or order, i and j all SeqCst)": what was seen before the
-- yield is not read again where there is a newer store, so that a loop that waits for it comes to an end
abbrev pub load_drops : Clocks → List (List ℕ) → Numbers → ℕ → ℕ → ℕ → ℕ → ℕ → Bool
load_drops clocks rows numbers t c o i j =
    seen_by clocks rows t j
    || seen_before_yield (get_or rows i []) t (number numbers (last_yield t))
    || all_seq_cst numbers c i j o

-- "Match for load" (atomic.rs: match_load_to_stores)
unfoldable pub load_fate : Clocks → List (List ℕ) → Numbers → ℕ → ℕ → ℕ → ℕ → Fate
load_fate clocks rows numbers t c o i = fate_from clocks c i (load_drops clocks rows numbers t c o i) (live_in numbers c) 0

-- "RMW drops at any greater j." (atomic.rs: match_rmw_to_stores)
unfoldable pub rmw_fate : Clocks → Numbers → ℕ → ℕ → Fate
rmw_fate clocks numbers c i = fate_from clocks c i (λ (j : ℕ). true) (live_in numbers c) 0

abbrev pub also_offered : Bool → Matched → Matched
also_offered b (offers more) = offers (b ∷ more)
also_offered b Event.equal = Event.equal

abbrev pub by_fate : Fate → Matched → Matched
by_fate kept more = also_offered true more
by_fate dropped more = also_offered false more
by_fate equal_met more = Event.equal

-- the n slots from i on: each is offered where it is kept; "13 exactly if some row i meets an equal order"
unfoldable pub matched_from : (ℕ → Fate) → ℕ → ℕ → Matched
matched_from fate zero i = offers []
matched_from fate (suc n) i = by_fate (fate i) (matched_from fate n (i + 1))

unfoldable pub matched_load : Clocks → List (List ℕ) → Numbers → ℕ → ℕ → ℕ → Matched
matched_load clocks rows numbers t c o = matched_from (load_fate clocks rows numbers t c o) (live_in numbers c) 0

unfoldable pub matched_rmw : Clocks → Numbers → ℕ → Matched
matched_rmw clocks numbers c = matched_from (rmw_fate clocks numbers c) (live_in numbers c) 0

-- Races

pub data Race : Type 0 where
  no_race : Race
  race_of : ℕ → ℕ → Race

-- "14 race: kind and other thread": the accesses of this sort have a thread ahead, and the other is the lowest [Q31]
abbrev pub of_kind : ℕ → Whom → Race
of_kind kind nobody = no_race
of_kind kind (thread other) = race_of kind other

abbrev pub race_with : Clocks → ℕ → Vector → ℕ → Race
race_with clocks t v kind = of_kind kind (ahead (vector clocks (causality t)) (vector clocks v))

abbrev pub or_else : Race → Race → Race
or_else no_race other = other
or_else (race_of kind t) other = race_of kind t

-- "Race kinds in check order: load 1 (mut)"
unfoldable pub load_race : Clocks → ℕ → ℕ → Race
load_race clocks t c = race_with clocks t (mutated c) 1

-- "unsynchronised load 2 (mut), 3 (store)"
unfoldable pub unsync_load_race : Clocks → ℕ → ℕ → Race
unsync_load_race clocks t c = or_else (race_with clocks t (mutated c) 2) (race_with clocks t (stored c) 3)

-- "store 4 (mut), 5 (unsynchronised load)"
unfoldable pub store_race : Clocks → ℕ → ℕ → Race
store_race clocks t c = or_else (race_with clocks t (mutated c) 4) (race_with clocks t (unsync_loaded c) 5)

-- "exclusive 6 (load), 7 (unsynchronised load), 8 (store), 9 (mut)"
unfoldable pub mut_race : Clocks → ℕ → ℕ → Race
mut_race clocks t c =
    or_else (race_with clocks t (loaded c) 6)
    (or_else (race_with clocks t (unsync_loaded c) 7)
    (or_else (race_with clocks t (stored c) 8)
    (race_with clocks t (mutated c) 9)))

-- an access that does not race is recorded: its sort takes in the thread's causality, which is that before it synchronises [Q31]
-- (atomic.rs: track_load, track_unsync_load, track_store, track_unsync_mut)
abbrev pub recorded : Race → Clocks → Vector → ℕ → Clocks
recorded no_race clocks v t = join_into clocks v (causality t)
recorded (race_of kind other) clocks v t = clocks

unfoldable pub load_tracked : Clocks → ℕ → ℕ → Clocks
load_tracked clocks t c = recorded (load_race clocks t c) clocks (loaded c) t

unfoldable pub unsync_load_tracked : Clocks → ℕ → ℕ → Clocks
unsync_load_tracked clocks t c = recorded (unsync_load_race clocks t c) clocks (unsync_loaded c) t

unfoldable pub store_tracked : Clocks → ℕ → ℕ → Clocks
store_tracked clocks t c = recorded (store_race clocks t c) clocks (stored c) t

unfoldable pub mut_tracked : Clocks → ℕ → ℕ → Clocks
mut_tracked clocks t c = recorded (mut_race clocks t c) clocks (mutated c) t

-- Coherence and touch

-- the other stores that the thread has seen (read-read coherence) or that happened before it (write-read coherence) (atomic.rs:
-- apply_load_coherence)
abbrev pub coheres : Clocks → List (List ℕ) → ℕ → ℕ → ℕ → ℕ → Bool
coheres clocks rows t c slot i =
    not (eqb i slot)
    && (seen_by clocks rows t i || less (vector clocks (happens_before (store_at c i))) (vector clocks (causality t)))

-- "coherence": an order takes in the orders of those stores, here of the n slots from i on. A slot that is not live would add
-- nothing (docs/DECISIONS.md, 49)
unfoldable pub coherent_from : Clocks → List (List ℕ) → ℕ → ℕ → ℕ → List ℕ → ℕ → ℕ → List ℕ
coherent_from clocks rows t c slot so zero i = so
coherent_from clocks rows t c slot so (suc n) i =
    coherent_from clocks rows t c slot (cond (coheres clocks rows t c slot i) (joined so (order_of clocks c i)) so) n (i + 1)

-- the chosen store's order
unfoldable pub coherent : Clocks → List (List ℕ) → Numbers → ℕ → ℕ → ℕ → Clocks
coherent clocks rows numbers t c slot =
    with_vector clocks (modification_order (store_at c slot)) (coherent_from clocks rows t c slot (order_of clocks c slot) (live_in numbers c) 0)

-- "A thread's version is its own part."
abbrev pub version : Clocks → ℕ → ℕ
version clocks t = get_or (vector clocks (causality t)) t 0

-- "touch": the thread's mark on the store that it reads
unfoldable pub touch_done : Clocks → Marks → ℕ → ℕ → ℕ → Marks
touch_done clocks marks t c slot = with_marks marks c (touched_at (marks_of marks c) slot t (version clocks t))

-- Store

-- "Slot is cnt mod 7"
abbrev pub slot_of : ℕ → ℕ
slot_of n = n % history

-- "newest": the last in execution order [Q18]
abbrev pub newest : ℕ → ℕ
newest n = (n % history + 6) % history

-- "A new store joins the orders of all seen slots, the one it replaces included.", here of the n slots from i on: read-write
-- coherence. It starts from the causality: write-write coherence (atomic.rs: State::store)
unfoldable pub store_order_from : Clocks → List (List ℕ) → ℕ → ℕ → List ℕ → ℕ → ℕ → List ℕ
store_order_from clocks rows t c so zero i = so
store_order_from clocks rows t c so (suc n) i =
    store_order_from clocks rows t c (cond (seen_by clocks rows t i) (joined so (order_of clocks c i)) so) n (i + 1)

unfoldable pub store_order : Clocks → List (List ℕ) → ℕ → ℕ → ℕ → List ℕ
store_order clocks rows cnt t c = store_order_from clocks rows t c (vector clocks (causality t)) (live_stores cnt) 0

-- a store's three vectors
abbrev pub with_store : Clocks → ℕ → List ℕ → List ℕ → List ℕ → Clocks
with_store clocks store hb so s =
    with_vector (with_vector (with_vector clocks (happens_before store) hb) (modification_order store) so) (sync store) s

-- the new store is seen by its own thread alone (atomic.rs: State::store)
abbrev pub seen_by_own : Clocks → List (List ℕ) → ℕ → ℕ → List (List ℕ)
seen_by_own clocks rows t slot = set rows slot (touched (unseens threads) t (version clocks t))

abbrev pub seq_cst_flag : ℕ → ℕ
seq_cst_flag o = cond (eqb o seq_cst_order) 1 0

-- a store of a value in the cell's next slot, with the sync vector that it starts from. Happens-before, order and mark go by the
-- causality at this moment, for an RMW after its sync [Q30]
unfoldable pub store_done : State → ℕ → ℕ → List ℕ → ℕ → ℕ → State
store_done st t c from v o =
    let n = number st.numbers (count c) in
    let store = store_at c (slot_of n) in
    let rows = marks_of st.marks c in
    record {
      clocks = with_store st.clocks store (vector st.clocks (causality t))
          (store_order st.clocks rows n t c) (store_synced st.clocks t from o);
      marks = with_marks st.marks c (seen_by_own st.clocks rows t (slot_of n));
      values = with_value st.values (of_store store) v;
      numbers = with_number (with_number st.numbers (count c) (one_more n)) (is_seq_cst store) (seq_cst_flag o);
    }

-- Accesses

-- what an access comes to: the value read, or the race that stopped it
pub data AccessResult : Type 0 where
  raced : ℕ → ℕ → State → AccessResult
  read : ℕ → State → AccessResult

abbrev pub with_clocks : State → Clocks → State
with_clocks st clocks = record { clocks = clocks; marks = st.marks; values = st.values; numbers = st.numbers }

abbrev pub with_both : State → Clocks → Marks → State
with_both st clocks marks = record { clocks = clocks; marks = marks; values = st.values; numbers = st.numbers }

abbrev pub with_values : State → Values → State
with_values st values = record { clocks = st.clocks; marks = st.marks; values = values; numbers = st.numbers }

-- "race (14); coherence; touch": a slot that is read, where there is no race
unfoldable pub sighted : State → ℕ → ℕ → ℕ → State
sighted st t c slot =
    let clocks = coherent (load_tracked st.clocks t c) (marks_of st.marks c) st.numbers t c slot in
    with_both st clocks (touch_done clocks st.marks t c slot)

abbrev pub unless_race : Race → State → AccessResult → AccessResult
unless_race no_race st done = done
unless_race (race_of kind other) st done = raced kind other st

-- "Load order: ..; choose; race (14); coherence; touch; sync."
unfoldable pub load_done : State → ℕ → ℕ → ℕ → ℕ → AccessResult
load_done st t c slot o =
    let seen_it = sighted st t c slot in
    unless_race (load_race st.clocks t c) st
    (read (value st.values (of_store (store_at c slot)))
    (with_clocks seen_it (load_synced seen_it.clocks t (store_at c slot) o)))

-- RMW

-- "failure syncs by the failure order only" (atomic.rs: State::rmw)
abbrev pub failed : State → ℕ → ℕ → ℕ → ℕ → AccessResult
failed st t store v o = read v (with_clocks st (load_synced st.clocks t store o))

-- "An RMW that succeeds checks the store race after touching, then syncs by success order, and copies that sync into the new
-- store", where it takes the store synchronisation too [Q30]
unfoldable pub succeeded : State → ℕ → ℕ → ℕ → ℕ → ℕ → ℕ → AccessResult
succeeded st t c store v new o =
    let synced = with_clocks st (load_synced (store_tracked st.clocks t c) t store o) in
    unless_race (store_race st.clocks t c) st
    (read v (store_done synced t c (vector synced.clocks (sync store)) new o))

abbrev pub by_change : Changed → State → ℕ → ℕ → ℕ → ℕ → ℕ → ℕ → AccessResult
by_change (success new) st t c store v o f = succeeded st t c store v new o
by_change failure st t c store v o f = failed st t store v f

-- RMW of a slot: a load's race, coherence and touch, then the change (atomic.rs: State::rmw)
unfoldable pub rmw_done : State → ℕ → ℕ → ℕ → Change → ℕ → ℕ → AccessResult
rmw_done st t c slot change o f =
    let store = store_at c slot in
    let v = value st.values (of_store store) in
    unless_race (load_race st.clocks t c) st
    (by_change (applied change v) (sighted st t c slot) t c store v o f)

-- Accesses without synchronisation, of the newest store

abbrev pub newest_of : Numbers → ℕ → ℕ
newest_of numbers c = store_at c (newest (number numbers (count c)))

-- "5 unsynchronised load": order, sync and marks stay as they are [Q28]
unfoldable pub unsync_load_done : State → ℕ → ℕ → AccessResult
unsync_load_done st t c =
    unless_race (unsync_load_race st.clocks t c) st
    (read (value st.values (of_store (newest_of st.numbers c))) (with_clocks st (unsync_load_tracked st.clocks t c)))

-- the value that a change leaves in the cell, a failing one too [Q18]
abbrev pub leaves : Changed → ℕ → ℕ
leaves (success new) v = new
leaves failure v = v

-- "6 exclusive change (`with_mut`)": only the newest store's value changes; a failing one still tracks [Q28]
unfoldable pub mut_done : State → ℕ → ℕ → Change → AccessResult
mut_done st t c change =
    let store = newest_of st.numbers c in
    let v = value st.values (of_store store) in
    unless_race (mut_race st.clocks t c) st
    (read v (with_values (with_clocks st (mut_tracked st.clocks t c)) (with_value st.values (of_store store) (leaves (applied change v) v))))

-- Fences

-- the k-th from the oldest of the stores that are live: "stores oldest first" (atomic.rs: stores_mut, range)
abbrev pub kth_oldest : ℕ → ℕ → ℕ
kth_oldest n k = cond (ltb n history) k ((n % history + k) % history)

-- "Acquire fence: .. stores oldest first; causality grown by one join counts for the next store.": n more stores, from the
-- k-th on. Only seen stores are joined [Q29] (atomic.rs: fence_acq)
unfoldable pub acquired_from : Clocks → List (List ℕ) → ℕ → ℕ → ℕ → ℕ → ℕ → Clocks
acquired_from clocks rows cnt t c zero k = clocks
acquired_from clocks rows cnt t c (suc n) k =
    acquired_from
    (cond (seen_by clocks rows t (kth_oldest cnt k)) (join_into clocks (causality t) (sync (store_at c (kth_oldest cnt k)))) clocks)
    rows cnt t c n (k + 1)

unfoldable pub cell_acquired : Clocks → List (List ℕ) → ℕ → ℕ → ℕ → Clocks
cell_acquired clocks rows cnt t c = acquired_from clocks rows cnt t c (live_stores cnt) 0

-- "cells in order": n more cells, from cell c on; what one cell's join adds counts for the next cell [Q29]
unfoldable pub cells_acquired : Clocks → Marks → Numbers → ℕ → ℕ → ℕ → Clocks
cells_acquired clocks marks numbers t zero c = clocks
cells_acquired clocks marks numbers t (suc n) c =
    cells_acquired (cell_acquired clocks (marks_of marks c) (number numbers (count c)) t c) marks numbers t n (c + 1)

unfoldable pub fence_acquired : Clocks → Marks → Numbers → ℕ → ℕ → Clocks
fence_acquired clocks marks numbers t cells = cells_acquired clocks marks numbers t cells 0

-- a release fence sets released to the causality [Q25] (atomic.rs: fence_rel)
unfoldable pub fence_released : Clocks → ℕ → Clocks
fence_released clocks t = with_vector clocks (released t) (vector clocks (causality t))

-- "A SeqCst fence is acquire, release, then the thread joins the global SeqCst vector and that joins the thread."
unfoldable pub fence_seq_cst : Clocks → ℕ → Clocks
fence_seq_cst clocks t = join_into (join_into clocks (causality t) seq_cst) seq_cst (causality t)

-- "Orders: .. 1 Release, 2 Acquire, 3 AcqRel, 4 SeqCst.": AcqRel is acquire, then release [Q29]. Another order, which no accepted
-- table has, does nothing
unfoldable pub fenced : Clocks → Marks → Numbers → ℕ → ℕ → ℕ → Clocks
fenced clocks marks numbers t cells o =
    cond (eqb o 1) (fence_released clocks t)
    (cond (eqb o 2) (fence_acquired clocks marks numbers t cells)
    (cond (eqb o 3) (fence_released (fence_acquired clocks marks numbers t cells) t)
    (cond (eqb o 4) (fence_seq_cst (fence_released (fence_acquired clocks marks numbers t cells) t) t)
    clocks)))
