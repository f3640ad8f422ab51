-- The numbers at the start of each execution: it is ready for its first tick, and its measure is at most 3·L + 25. Assumes
-- nothing.
--     Untouched, New                  names under which nothing is written; what is under every other name
--     start-new                       so it is at the start
--     start-ready, start-measure      it is ready, and has so many ticks left
use Prim.Native.Nat.{ℕ, zero, suc, ◌+◌, ◌*◌, ◌≤◌, ◌<◌}
use mathlib.Core.List.{List}
use mathlib.Core.Bool.{Bool, cond}
use mathlib.Core.Path.{◌≡◌, refl, ap, sym, ◌∙◌}
use mathlib.Core.Logic.{◌≢◌, ◌⊎◌, inl, inr}
use native.Mathlib.Omega.{arith}
use native.Mathlib.Nat.{add-zero, zero-add}
use lib.Dec.{eqb}
use lib.ListN.{length, replicate, length-replicate, get_or-replicate}
use Rattle.rules.specs.Vector.{one_more}
use Rattle.rules.specs.Table.{threads_of, cells_of, plains_of}
use Rattle.rules.specs.State as State
use Rattle.rules.specs.State.{State, Numbers, Number, number, with_number, number_at, numbers_held, threads, cells, none, operates_on, phase, active_thread, count, is_seq_cst, last_yield, access_branch, non_load_branch, exploring, store_at}
use Rattle.rules.specs.Cell.{store_done, slot_of}
use Rattle.rules.specs.Plain.{plain_write_done}
use Rattle.rules.specs.Machine
use Rattle.rules.specs.Machine.{Program, start, absent, runnable, to_begin, ended}
use Rattle.rules.specs.Measure.{ticks_left, ticks_left_of, measure, Ready}
use Rattle.rules.proofs.StateLaws.{number-other, number-kept}
use Rattle.rules.proofs.NumberLaws.{after, for-threads}
use Rattle.rules.proofs.MeasureRows.{pick}

-- names under which the start writes nothing
abbrev pub Untouched : Number → Type 0
Untouched k =
    (number_at k < numbers_held)
    × (number_at k ≢ number_at exploring)
    × ((i : ℕ) → i < threads → (number_at k ≢ number_at (State.state i)) × (number_at k ≢ number_at (last_yield i)))
    × ((c : ℕ) → c < cells → (number_at k ≢ number_at (count c)) × (number_at k ≢ number_at (access_branch c))
    × (number_at k ≢ number_at (non_load_branch c)))
    × ((s : ℕ) → s < 28 → number_at k ≢ number_at (is_seq_cst s))

-- the cells below `made` have a store, and the threads below `up` are runnable
pub record New (made up : ℕ) (a : Numbers) : Type 0 where
  pub long : length a ≡ numbers_held
  pub nothing : (k : Number) → Untouched k → number a k ≡ 0
  pub lasts : (i : ℕ) → i < threads → (number a (last_yield i) ≡ none) ⊎ (number a (last_yield i) ≡ 0)
  pub started : (i : ℕ) → i < threads → i < up → number a (State.state i) ≡ runnable
  pub missing : (i : ℕ) → i < threads → up ≤ i → number a (State.state i) ≡ absent
  pub stored : (c : ℕ) → c < cells → c < made → number a (count c) ≡ 1
  pub unmade : (c : ℕ) → c < cells → made ≤ c → number a (count c) ≡ 0

-- what a write of v under k makes of the states and of the counts
abbrev Writes : (k : Number) (v made up made' up' : ℕ) → Type 0
Writes k v made up made' up' =
    (number_at k < numbers_held)
    × ((i : ℕ) → i < threads → number_at (last_yield i) ≡ number_at k → v ≡ none)
    × ((i : ℕ) → i < threads → number_at (State.state i) ≡ number_at k → (i < up' → v ≡ runnable) × (up' ≤ i → v ≡ absent))
    × ((i : ℕ) → i < threads → number_at (State.state i) ≢ number_at k → (i < up' → i < up) × (up' ≤ i → up ≤ i))
    × ((c : ℕ) → c < cells → number_at (count c) ≡ number_at k → (c < made' → v ≡ 1) × (made' ≤ c → v ≡ 0))
    × ((c : ℕ) → c < cells → number_at (count c) ≢ number_at k → (c < made' → c < made) × (made' ≤ c → made ≤ c))

written : {made up : ℕ} {a : Numbers} → New made up a → (k : Number) (v : ℕ) {made' up' : ℕ} →
    ((j : Number) → Untouched j → number_at j ≢ number_at k) → Writes k v made up made' up' → New made' up' (with_number a k v)
written {a = a} u k v d w =
    let h : number_at k < length a = omega (arith, u.long, w.0) in
    record {
      long = number-kept a k v ∙ u.long;
      nothing = λ j e. number-other a k j v (d j e) ∙ u.nothing j e;
      lasts = λ i l. after (λ (x : ℕ). (x ≡ none) ⊎ (x ≡ 0)) a k (last_yield i) v h (λ e. inl (w.1 i l e)) (λ e. u.lasts i l);
      started = λ i l o. after (λ (x : ℕ). x ≡ runnable) a k (State.state i) v h (λ e. (w.2 i l e).0 o)
          (λ e. u.started i l ((w.3 i l e).0 o));
      missing = λ i l o. after (λ (x : ℕ). x ≡ absent) a k (State.state i) v h (λ e. (w.2 i l e).1 o)
          (λ e. u.missing i l ((w.3 i l e).1 o));
      stored = λ c l o. after (λ (x : ℕ). x ≡ 1) a k (count c) v h (λ e. (w.4 c l e).0 o) (λ e. u.stored c l ((w.5 c l e).0 o));
      unmade = λ c l o. after (λ (x : ℕ). x ≡ 0) a k (count c) v h (λ e. (w.4 c l e).1 o) (λ e. u.unmade c l ((w.5 c l e).1 o));
    }

-- one that changes neither
aside : {made up : ℕ} {a : Numbers} → New made up a → (k : Number) (v : ℕ) → ((j : Number) → Untouched j → number_at j ≢ number_at k) →
    Writes k v made up made up → New made up (with_number a k v)
aside u k v d w = written u k v d w

zeros-new : New 0 0 (replicate numbers_held 0)
zeros-new =
    let zero-at : (k : Number) → number_at k < numbers_held → number (replicate numbers_held 0) k ≡ 0 =
    λ k h. get_or-replicate {A = ℕ} numbers_held (number_at k) 0 0 h in
    record {
      long = length-replicate {A = ℕ} numbers_held 0;
      nothing = λ k h. zero-at k h.0;
      lasts = λ i h. inr (zero-at (last_yield i) (omega arith));
      started = λ i h l. absurd (omega arith);
      missing = λ i h l. zero-at (State.state i) (omega arith);
      stored = λ c h l. absurd (omega arith);
      unmade = λ c h l. zero-at (count c) (omega arith);
    }

blank-new : (explores : Bool) → New 0 0 (Machine.blank explores).numbers
unfolding Machine.blank
blank-new explores =
    aside
    (for-threads (New 0 0) Machine.no_access cells
    (λ c a h u. aside (aside u (access_branch c) none (λ j e. (e.3 c h).1) (omega arith)) (non_load_branch c) none (λ j e. (e.3 c h).2)
    (omega arith))
    cells 0 _ (omega arith)
    (for-threads (New 0 0) Machine.no_yield threads (λ i a h u. aside u (last_yield i) none (λ j e. (e.2 i h).1) (omega arith))
    threads 0 _ (omega arith) zeros-new))
    exploring (cond explores 1 0) (λ j e. e.1) (omega arith)

-- "cells take a Release store of their start value"
cell-new : (table : List ℕ) (c : ℕ) (st : State) → c < cells → New c 0 st.numbers →
    New (c + 1) 0 (Machine.cell_made table st c).numbers
unfolding store_done
cell-new table c st h u =
    let x = number st.numbers (count c) in
    let first : one_more x ≡ 1 = ap one_more (u.unmade c h (omega arith)) in
    let slot = store_at c (slot_of x) in
    let small : slot < 28 = omega arith in
    let one : New (c + 1) 0 (with_number st.numbers (count c) (one_more x)) =
    written u (count c) (one_more x) (λ j e. (e.3 c h).0) (omega arith) in
    aside one (is_seq_cst slot) _ (λ j e. e.4 slot small) (omega arith)

cells-new : (table : List ℕ) (n c : ℕ) (st : State) → c + n ≤ cells → New c 0 st.numbers →
    New (c + n) 0 (Machine.cells_made table st n c).numbers
unfolding Machine.cells_made
cells-new table zero c st h u = rw (add-zero c) u
cells-new table (suc n) c st h u =
    let e : c + 1 + n ≡ c + suc n = omega arith in
    rw (sym e) (cells-new table n (c + 1) (Machine.cell_made table st c) (omega arith) (cell-new table c st (omega arith) u))

-- "thread 0 makes them as writes after the atomic cells": no number of the state is theirs
pub plains-new : (table : List ℕ) (n c : ℕ) (st : State) → (Machine.plains_made table st n c).numbers ≡ st.numbers
unfolding Machine.plains_made plain_write_done
plains-new table zero c st = refl
plains-new table (suc n) c st = plains-new table n (c + 1) (Machine.plain_made table st c)

-- "All are runnable"
threads-new : (made n t : ℕ) (st : State) → t + n ≤ threads → New made t st.numbers →
    New made (t + n) (Machine.threads_started st n t).numbers
unfolding Machine.threads_started
threads-new made zero t st h u = rw (add-zero t) u
threads-new made (suc n) t st h u =
    let e : t + 1 + n ≡ t + suc n = omega arith in
    let l : t < threads = omega arith in
    rw (sym e)
    (threads-new made n (t + 1) (Machine.thread_started st t) (omega arith)
    (written u (State.state t) runnable (λ j e. (e.2 t l).0) (omega arith)))

-- a thread whose row is to begin has its end left
begin-most : (s : ℕ) → ticks_left s to_begin ≤ 5
unfolding ticks_left
begin-most s = pick (λ (x : ℕ). 0 + x ≤ 5) (eqb s ended) (λ e. omega arith) (λ e. omega arith)

module _ (p : Program) (few : threads_of p.table ≤ threads) (held : cells_of p.table ≤ cells) where
  pub start-new : New (cells_of p.table) (threads_of p.table) (start p).numbers
  unfolding start
  start-new =
      let first = Machine.thread0_making (Machine.blank p.exploring) in
      let made = Machine.cells_made p.table first (cells_of p.table) 0 in
      let cells_are : New (cells_of p.table) 0 made.numbers =
      rw (zero-add (cells_of p.table)) at (cells-new p.table (cells_of p.table) 0 first (omega arith) (blank-new p.exploring)) in
      let all = Machine.plains_made p.table made (plains_of p.table) 0 in
      let all_are : New (cells_of p.table) 0 all.numbers = rw (plains-new p.table (plains_of p.table) 0 made) cells_are in
      rw (zero-add (threads_of p.table)) at (threads-new (cells_of p.table) (threads_of p.table) 0 all (omega arith) all_are)

module _ (p : Program) (some : 1 ≤ threads_of p.table) (few : threads_of p.table ≤ threads) (held : cells_of p.table ≤ cells) where
  pub start-ready : Ready (start p)
  start-ready =
      let u = start-new p few held in
      let first : number (start p).numbers active_thread ≡ 0 = u.nothing active_thread (omega arith) in
      record {
        whole = record { long = u.long; on_cell = λ t h. omega (arith, u.nothing (operates_on t) (omega arith)) };
        below = omega arith;
        runs = inl (ap (λ (t : ℕ). number (start p).numbers (State.state t)) first ∙ u.started 0 (omega arith) some);
      }

  -- "12 a row is to begin with L begun", and five ends: one less than the ticks that an execution is given
  pub start-measure : measure p (start p) ≤ 3 * p.operations + 25
  unfolding measure
  start-measure =
      let u = start-new p few held in
      let most : (i : ℕ) → i < threads → ticks_left_of (start p).numbers i ≤ 5 =
      λ i h. rw (u.nothing (phase i) (omega arith)) (begin-most (number (start p).numbers (State.state i))) in
      omega (arith, most 0 (omega arith), most 1 (omega arith), most 2 (omega arith), most 3 (omega arith), most 4 (omega arith))
