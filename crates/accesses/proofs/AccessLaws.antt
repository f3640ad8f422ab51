-- The laws of the rows that access a cell or a plain cell: each step's own promise gives what it leaves, and the last state is the
-- definition's. Assumes nothing.
--     raced                     a race that is passed up as the fault
--     put-raced, put-done       a value that was read, or the race that stopped it
--     reads_as                  of the newest slot, by what an unsynchronised load came to; of none, by what a plain read did
--     store-raced, store-done   a store
--     mut-raced, mut-done       an exclusive change
--     write-raced, write_done   a plain write
use Rattle.std.specs.Prelude.{Result, Ok, Err}
use Prim.Native.Nat.{ℕ}
use mathlib.Core.Path.{◌≡◌, ◌∙◌}
use Rattle.rules.specs.Event as Event
use Rattle.rules.specs.Event.{Move, moves, stops}
use Rattle.rules.specs.State.{State, Clocks, Marks, Values, Numbers, value, with_value, number, store_at, register_at, of_store, of_register, count, threads}
use Rattle.rules.specs.Vector.{one_more, zeros}
use Rattle.rules.specs.Cell.{AccessResult, Race, slot_of, newest, no_race, race_of, store_race, store_tracked, store_done, with_clocks}
use Rattle.rules.specs.Machine.{version_raised, completed, entry, no_slot, stores_unless, stores, reads, leaves_in, writes_unless}
use Rattle.layout.specs.Tables.{state}
use Rattle.atomic.specs.Accesses.{access_of}
use Rattle.atomic.specs.Exclusive.{mutated_of}
use Rattle.track.specs.declared.Race as tracks
use Rattle.atomic.specs.declared.Mutated.{Mutated}
use Rattle.event.specs.Moves.{Happening, move_of}
use Rattle.std.specs.Result.{IsErrAnd}
use Rattle.std.proofs.lemmas.Result.{err_from_is_err_and}
use Rattle.event.specs.declared.Fault.{Fault}
use Rattle.event.specs.declared.Fault.TheVariants as fault
use Rattle.plain.specs.Writes.{unless_raced}

-- a race that is passed up as the fault
pub raced : (out : Happening) (race : tracks.Race) → IsErrAnd out (λ (f : Fault). f ≡ fault.Race race.kind race.other) → (t k opcode : ℕ) (m : Event.Matched) (st : State) →
    move_of out t k opcode m st ≡ stops st (Event.race race.kind race.other)
raced out race h t k opcode m st = let e = err_from_is_err_and out h in rw (e.1, e.2)

module _ (t k opcode r : ℕ) where
  module _ (slot mask : ℕ) (loaded : Result ℕ tracks.Race) where
    pub put-raced : (race : tracks.Race) → loaded ≡ Err race → (st : State) →
        stops st (Event.race race.kind race.other) ≡ reads (access_of loaded st) t k opcode r slot mask
    put-raced race e st = rw e

    -- the register's place, and the row after this one
    pub put-done : (v : ℕ) → loaded ≡ Ok v → (clocks : Clocks) (marks : Marks) (values : Values) (numbers : Numbers) (at next : ℕ) →
        at ≡ register_at t r → next ≡ one_more k → (st : State) →
        st ≡ completed (state clocks marks (with_value values (of_register at) v) numbers) t next →
        moves st (entry t k opcode slot mask v) ≡ reads (access_of loaded (state clocks marks values numbers)) t k opcode r slot mask
    put-done v e clocks marks values numbers at next f g st h = rw (e, h, g, f)

  pub reads_as : (mask slot n : ℕ) → slot ≡ n → (x y : AccessResult) → x ≡ y → (move : Move State) →
      move ≡ reads x t k opcode r slot mask → move ≡ reads y t k opcode r n mask
  reads_as mask slot n e x y f move p = rw (← e, ← f) p

  module _ (c : ℕ) (m : Result Mutated tracks.Race) (clocks : Clocks) (marks : Marks) (values : Values) (numbers : Numbers) (x : AccessResult)
      (access : mutated_of m (state clocks marks values numbers) ≡ x) where
    pub mut-raced : (race : tracks.Race) → m ≡ Err race → stops (state clocks marks values numbers) (Event.race race.kind race.other) ≡ leaves_in x t k opcode c r
    mut-raced race e = rw (← access, e)

    pub mut-done : (found : Mutated) → m ≡ Ok found → (slot store at next : ℕ) →
        slot ≡ newest (number numbers (count c)) → store ≡ store_at c slot → at ≡ register_at t r → next ≡ one_more k → (st : State) →
        st ≡ completed (state clocks marks (with_value values (of_register at) found.read) numbers) t next →
        moves st (entry t k opcode slot 0 (value values (of_store store))) ≡ leaves_in x t k opcode c r
    mut-done found e slot store at next f g h i st j = rw (← access, e, j, i, h, g, f)

-- by the race that was found, and what was left
module _ (t k opcode v : ℕ) (race whole : Race) (answer : race ≡ whole) (st written left : State) (is : left ≡ unless_raced race st written) where
  pub write-raced : (found : tracks.Race) → race ≡ race_of found.kind found.other →
      stops left (Event.race found.kind found.other) ≡ writes_unless whole st written t k opcode v
  write-raced found e = rw (is, ← answer, e)

  pub write_done : race ≡ no_race → (next : ℕ) (out : State) → next ≡ one_more k → out ≡ completed left t next →
      moves out (entry t k opcode no_slot 0 v) ≡ writes_unless whole st written t k opcode v
  write_done e next out f g = rw (g, f, is, ← answer, e)

module _ (t k opcode c o v : ℕ) where
  -- the version first
  up_first : (st up : State) → up ≡ version_raised st t →
      stores_unless (store_race up.clocks t c) up (with_clocks up (store_tracked up.clocks t c)) t k opcode c o v ≡ stores st t k opcode c o v
  unfolding stores
  up_first st up e = rw e

  module _ (clocks : Clocks) (marks : Marks) (values : Values) (numbers : Numbers) (tracked : Clocks) (left : tracked ≡ store_tracked clocks t c) where
    raced-up : (kind other : ℕ) → race_of kind other ≡ store_race clocks t c →
        stops (state tracked marks values numbers) (Event.race kind other)
        ≡ stores_unless (store_race clocks t c) (state clocks marks values numbers) (state (store_tracked clocks t c) marks values numbers) t k opcode c o v
    unfolding store_tracked
    raced-up kind other answer = rw (left, ← answer)

    done-up : no_race ≡ store_race clocks t c → (slot next : ℕ) → slot ≡ slot_of (number numbers (count c)) → next ≡ one_more k →
        (stored st : State) → stored ≡ store_done (state tracked marks values numbers) t c (zeros threads) v o → st ≡ completed stored t next →
        moves st (entry t k opcode slot 0 v)
        ≡ stores_unless (store_race clocks t c) (state clocks marks values numbers) (state (store_tracked clocks t c) marks values numbers) t k opcode c o v
    done-up answer slot next e f stored st g h = rw (← answer, h, g, left, f, e)

    module _ (before : State) (up : state clocks marks values numbers ≡ version_raised before t) where
      pub store-raced : (race : tracks.Race) → race_of race.kind race.other ≡ store_race clocks t c → stops (state tracked marks values numbers) (Event.race race.kind race.other) ≡ stores before t k opcode c o v
      store-raced race answer = raced-up race.kind race.other answer ∙ up_first before (state clocks marks values numbers) up

      pub store-done : no_race ≡ store_race clocks t c → (slot next : ℕ) → slot ≡ slot_of (number numbers (count c)) → next ≡ one_more k →
          (stored st : State) → stored ≡ store_done (state tracked marks values numbers) t c (zeros threads) v o → st ≡ completed stored t next →
          moves st (entry t k opcode slot 0 v) ≡ stores before t k opcode c o v
      store-done answer slot next e f stored st g h =
          done-up answer slot next e f stored st g h ∙ up_first before (state clocks marks values numbers) up
