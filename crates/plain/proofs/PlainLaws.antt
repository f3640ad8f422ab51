-- The laws of accesses to a plain cell, behind the tracking of each. Assumes nothing.
--     read-raced, read_done           a read, with a race and with none
--     write-raced, write_done         a write
use Rattle.std.specs.Prelude.{Result}
use Rattle.std.specs.Result.{IsErrAnd}
use Rattle.std.proofs.lemmas.Result.{err_from_is_err_and}
use Prim.Native.Nat.{ℕ}
use mathlib.Core.Path.{◌≡◌}
use Rattle.rules.specs.State.{Clocks, Marks, Values, Numbers, value, with_value, of_plain}
use Rattle.rules.specs.Cell.{raced, read, race_of, no_race}
use Rattle.rules.specs.Plain.{plain_read_race, plain_read_tracked, plain_read_done, plain_write_race, plain_write_tracked, plain_write_done}
use Rattle.track.specs.declared.Race.{Race}
use Rattle.track.specs.Tracked.{race_meant}
use Rattle.layout.specs.Tables.{state}
use Rattle.plain.specs.Writes.{Writes}

module _ (clocks : Clocks) (values : Values) (t c : ℕ) where
  module _ (marks : Marks) (numbers : Numbers) (tracked : Clocks) (left : tracked ≡ plain_read_tracked clocks t c) where
    pub read-raced : (kind other : ℕ) → race_of kind other ≡ plain_read_race clocks t c →
        raced kind other (state tracked marks values numbers) ≡ plain_read_done (state clocks marks values numbers) t c
    unfolding plain_read_done plain_read_tracked
    read-raced kind other answer = rw (left, ← answer)

    pub read_done : no_race ≡ plain_read_race clocks t c →
        read (value values (of_plain c)) (state tracked marks values numbers) ≡ plain_read_done (state clocks marks values numbers) t c
    unfolding plain_read_done
    read_done answer = rw (← answer, left)

  module _ (v : ℕ) (tracked : Clocks) (left : tracked ≡ plain_write_tracked clocks t c) where
    pub write-raced : (r : Result Unit Race) (race : Race) → IsErrAnd r (λ x. x ≡ race) → race_of race.kind race.other ≡ plain_write_race clocks t c →
        Writes (race_meant r) clocks tracked values values t c v
    unfolding plain_write_tracked
    write-raced r race up answer =
        let p = err_from_is_err_and r up in
        record { answer = rw (p.1, p.2) answer; left = λ marks numbers. rw (p.1, left, ← answer) }

    pub write_done : no_race ≡ plain_write_race clocks t c →
        Writes no_race clocks tracked values (with_value values (of_plain c) v) t c v
    unfolding plain_write_done
    write_done answer = record { answer = answer; left = λ marks numbers. rw left }
