-- The laws of accesses to a cell's newest store: the unsynchronised load and the exclusive change. Assumes nothing.
--     unsync-raced, unsync-done               the load, with a race and with none
--     mut-raced, mut-failed, mut-changed      the change, with a race, where it fails and where it succeeds
use Rattle.std.specs.Prelude.{Result, Ok}
use Rattle.std.specs.Result.{IsErrAnd}
use Rattle.std.proofs.lemmas.Result.{err_from_is_err_and}
use Prim.Native.Nat.{ℕ, ◌+◌}
use mathlib.Core.Path.{◌≡◌}
use lib.Seq.{set-get_or}
use Rattle.rules.specs.State.{Clocks, Marks, Values, Numbers, value, with_value, number, store_at, of_store, count}
use Rattle.rules.specs.Change.{Change, applied, success, failure}
use Rattle.rules.specs.Cell.{newest, newest_of, raced, read, race_of, no_race}
use Rattle.rules.specs.Cell.{unsync_load_race, unsync_load_tracked, unsync_load_done, mut_race, mut_tracked, mut_done}
use Rattle.layout.specs.Tables.{state}
use Rattle.atomic.specs.Exclusive.{Mutates}
use Rattle.atomic.specs.declared.Mutated.{Mutated}
use Rattle.track.specs.declared.Race.{Race}

-- the newest slot and the number of its store
pub newest-at : (numbers : Numbers) (c slot store : ℕ) → slot ≡ newest (number numbers (count c)) → store ≡ store_at c slot → store ≡ newest_of numbers c
newest-at numbers c slot store e f = rw (← e) f

-- the values of an exclusive change
abbrev found : ℕ → ℕ → Mutated
found v w = record { read = v; left = w }

module _ (clocks : Clocks) (values : Values) (numbers : Numbers) (t c : ℕ) where
  module _ (marks : Marks) (tracked : Clocks) (left : tracked ≡ unsync_load_tracked clocks t c) where
    pub unsync-raced : (kind other : ℕ) → race_of kind other ≡ unsync_load_race clocks t c →
        raced kind other (state tracked marks values numbers) ≡ unsync_load_done (state clocks marks values numbers) t c
    unfolding unsync_load_done unsync_load_tracked
    unsync-raced kind other answer = rw (left, ← answer)

    pub unsync-done : no_race ≡ unsync_load_race clocks t c → (store : ℕ) → store ≡ newest_of numbers c →
        read (value values (of_store store)) (state tracked marks values numbers) ≡ unsync_load_done (state clocks marks values numbers) t c
    unfolding unsync_load_done
    unsync-done answer store at = rw (← answer, at, left)

  module _ (change : Change) (tracked : Clocks) (left : tracked ≡ mut_tracked clocks t c) where
    pub mut-raced : (r : Result Mutated Race) (race : Race) → IsErrAnd r (λ x. x ≡ race) → race_of race.kind race.other ≡ mut_race clocks t c →
        Mutates r clocks tracked values values numbers t c change
    unfolding mut_done mut_tracked
    mut-raced r race up answer =
        let p = err_from_is_err_and r up in
        record { access = λ marks. rw (p.1, p.2, left, ← answer); left = rw p.1 }

    module _ (answer : no_race ≡ mut_race clocks t c) (store : ℕ) (at : store ≡ newest_of numbers c) where
      pub mut-failed : failure ≡ applied change (value values (of_store store)) →
          Mutates (Ok (found (value values (of_store store)) (value values (of_store store)))) clocks tracked values values numbers t c change
      unfolding mut_done
      mut-failed e = record { access = λ marks. rw (← answer, ← at, ← e, left, set-get_or values (0 + store) 0); left = rw (← at, ← e) }

      pub mut-changed : (next : ℕ) → success next ≡ applied change (value values (of_store store)) →
          Mutates (Ok (found (value values (of_store store)) next)) clocks tracked values (with_value values (of_store store) next) numbers t c change
      unfolding mut_done
      mut-changed next e = record {
        access = λ marks. rw (← answer, ← at, ← e, left);
        left = rw (← at, ← e);
      }
