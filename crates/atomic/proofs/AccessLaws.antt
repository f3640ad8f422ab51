-- The laws of whole accesses, for the functions that go through their steps: each step's own promise gives what it leaves, and
-- the last state is the definition's. Assumes nothing.
--     flag-set, flag-clear            whether a store was SeqCst
--     passed_up                       an access that a race stops
--     stored                          a store
--     load-raced, load-done           a load
--     rmw-raced, rmw-failed, rmw-succeeded, then-raced, then-stored      a read-modify-write, and its rest after a change
use Rattle.std.specs.Prelude.{Result}
use Rattle.std.specs.Result.{IsErrAnd}
use Rattle.std.proofs.lemmas.Result.{err_from_is_err_and}
use Prim.Native.Nat.{ℕ}
use mathlib.Core.List.{List}
use mathlib.Core.Path.{◌≡◌}
use mathlib.Core.Logic.{◌≢◌}
use borrow.Author.Tests.{eq-eqb, ne_eqb}
use lib.ListN.{set}
use Rattle.rules.specs.Vector.{one_more}
use Rattle.rules.specs.Seen.{touched, unseens}
use Rattle.rules.specs.State.{State, Clocks, Marks, Values, Numbers, vector, marks_of, with_marks, value, with_value, number, with_number, store_at, threads, causality, sync, of_store, count, is_seq_cst}
use Rattle.rules.specs.Cell.{slot_of, with_store, version, seq_cst_order, seq_cst_flag, store_order, store_synced, store_done, AccessResult, raced, read}
use Rattle.rules.specs.Cell.{no_race, race_of, load_race, load_tracked, store_race, store_tracked, coherent, touch_done, load_synced}
use Rattle.rules.specs.Change.{Change, success, failure, applied}
use Rattle.rules.specs.Cell.{sighted, load_done, succeeded, rmw_done}
use Rattle.track.specs.declared.Race.{Race}
use Rattle.layout.specs.Tables.{state}
use Rattle.atomic.specs.Accesses.{access_of}

pub flag-set : (o : ℕ) → o ≡ seq_cst_order → 1 ≡ seq_cst_flag o
flag-set o e = rw (eq-eqb o seq_cst_order e)

pub flag-clear : (o : ℕ) → o ≢ seq_cst_order → 0 ≡ seq_cst_flag o
flag-clear o n = rw (ne_eqb o seq_cst_order n)

-- an access that a race stops
pub passed_up : (r : Result ℕ Race) (race : Race) (st : State) (x : AccessResult) → IsErrAnd r (λ e. e ≡ race) → raced race.kind race.other st ≡ x → access_of r st ≡ x
passed_up r race st x up e =
    let p = err_from_is_err_and r up in
    rw (p.1, p.2) e

module _ (clocks : Clocks) (marks : Marks) (values : Values) (numbers : Numbers) (t c : ℕ) where
  -- the slot and the number of the new store, and what is written of it
  pub stored : (from : List ℕ) (v o slot store more flag : ℕ) (so s row : List ℕ) →
      slot ≡ slot_of (number numbers (count c)) →
      store ≡ store_at c slot →
      more ≡ one_more (number numbers (count c)) →
      so ≡ store_order clocks (marks_of marks c) (number numbers (count c)) t c →
      s ≡ store_synced clocks t from o →
      row ≡ touched (unseens threads) t (version clocks t) →
      flag ≡ seq_cst_flag o →
      state
      (with_store clocks store (vector clocks (causality t)) so s)
      (with_marks marks c (set (marks_of marks c) slot row))
      (with_value values (of_store store) v)
      (with_number (with_number numbers (count c) more) (is_seq_cst store) flag)
      ≡ store_done (state clocks marks values numbers) t c from v o
  unfolding store_done
  stored from v o slot store more flag so s row a b d e f g h = rw (h, g, f, e, d, b, a)

  -- after the tracking of a load: the clocks are as it left them
  module _ (slot : ℕ) (tracked : Clocks) (left : tracked ≡ load_tracked clocks t c) where
    module _ (kind other : ℕ) (answer : race_of kind other ≡ load_race clocks t c) where
      pub load-raced : (o : ℕ) → raced kind other (state tracked marks values numbers) ≡ load_done (state clocks marks values numbers) t c slot o
      unfolding load_done load_tracked
      load-raced o = rw (left, ← answer)

      pub rmw-raced : (change : Change) (o f : ℕ) → raced kind other (state tracked marks values numbers) ≡ rmw_done (state clocks marks values numbers) t c slot change o f
      unfolding rmw_done load_tracked
      rmw-raced change o f = rw (left, ← answer)

    -- with no race, coherence and touch
    module _ (answer : no_race ≡ load_race clocks t c) (store : ℕ) (at : store ≡ store_at c slot)
        (ordered : Clocks) (coherence : ordered ≡ coherent tracked (marks_of marks c) numbers t c slot)
        (marked : Marks) (touch : marked ≡ touch_done ordered marks t c slot) where
      in-sight : state ordered marked values numbers ≡ sighted (state clocks marks values numbers) t c slot
      unfolding sighted
      in-sight = rw (touch, coherence, left)

      pub load-done : (o : ℕ) (synced : Clocks) → synced ≡ load_synced ordered t (store_at c slot) o →
          read (value values (of_store store)) (state synced marked values numbers) ≡ load_done (state clocks marks values numbers) t c slot o
      unfolding load_done
      load-done o synced e = rw (← answer, ← in-sight, e, at)

      module _ (change : Change) (o f : ℕ) where
        pub rmw-failed : failure ≡ applied change (value values (of_store store)) → (synced : Clocks) → synced ≡ load_synced ordered t (store_at c slot) f →
            read (value values (of_store store)) (state synced marked values numbers) ≡ rmw_done (state clocks marks values numbers) t c slot change o f
        unfolding rmw_done
        rmw-failed e synced g = rw (← answer, ← at, ← in-sight, ← e, g, ← at)

        pub rmw-succeeded : (next : ℕ) → success next ≡ applied change (value values (of_store store)) → (done : AccessResult) →
            done ≡ succeeded (state ordered marked values numbers) t c (store_at c slot) (value values (of_store store)) next o →
            done ≡ rmw_done (state clocks marks values numbers) t c slot change o f
        unfolding rmw_done
        rmw-succeeded next e done g = rw (← answer, ← at, ← in-sight, ← e) (rw (← at) at g)

  -- the rest of a read-modify-write, after the tracking of a store
  module _ (store v next o : ℕ) (tracked : Clocks) (left : tracked ≡ store_tracked clocks t c) where
    pub then-raced : (kind other : ℕ) → race_of kind other ≡ store_race clocks t c →
        raced kind other (state tracked marks values numbers) ≡ succeeded (state clocks marks values numbers) t c store v next o
    unfolding succeeded store_tracked
    then-raced kind other answer = rw (left, ← answer)

    pub then-stored : no_race ≡ store_race clocks t c → (synced : Clocks) → synced ≡ load_synced tracked t store o → (at : ℕ) → at ≡ store → (st : State) →
        st ≡ store_done (state synced marks values numbers) t c (vector synced (sync at)) next o →
        read v st ≡ succeeded (state clocks marks values numbers) t c store v next o
    unfolding succeeded
    then-stored answer synced e at g st f = rw (← answer, f, g, e, left)
