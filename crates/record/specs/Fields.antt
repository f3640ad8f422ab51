-- A path record's bytes among those of the path. Assumes nothing.
--     record_byte, with_record_byte   one byte of a record
--     record_begun, cleared         a record begun, and one set to zeros
--     with_offers, values_at         the values of a load's record
--     states_at, with_states_at       the five states of a schedule's record
use Rattle.std.specs.Prelude.{ℕ, ◌+◌, ◌*◌, List, ◌++◌, Bool, get_or, set, take, drop, replicate}
use Rattle.std.proofs.Math.Seq.{paste}
use Rattle.rules.specs.Path.{flag}
use Rattle.rules.specs.Records.{record_at, with_record}

-- byte k of the record at a position
abbrev pub record_byte : List ℕ → ℕ → ℕ → ℕ
record_byte path at k = get_or path (16 * at + k) 0

-- the path with that byte set
abbrev pub with_record_byte : List ℕ → ℕ → ℕ → ℕ → List ℕ
with_record_byte path at k v = set path (16 * at + k) v

-- the path with a record's kind set, and whether it is explored
unfoldable pub record_begun : List ℕ → ℕ → ℕ → Bool → List ℕ
record_begun path at kind exploring = with_record path at (set (set (record_at path at) 0 kind) 1 (flag exploring))

-- the path with a record of zeros
unfoldable pub cleared : List ℕ → ℕ → List ℕ
cleared path at = with_record path at (replicate 16 0)

-- the path with a load record's first n values put, and how many there are
unfoldable pub with_offers : List ℕ → ℕ → List ℕ → ℕ → List ℕ
with_offers path at seed n = with_record path at (set (paste (record_at path at) 2 seed n) 10 n)

-- the first n values of a load's record
unfoldable pub values_at : List ℕ → ℕ → ℕ → List ℕ
values_at path at n = take n (take 7 (drop 2 (record_at path at)))

-- the states among a record's bytes
unfoldable pub states_in : List ℕ → List ℕ
states_in r = take 5 (drop 2 r)

unfoldable pub with_states_in : List ℕ → List ℕ → List ℕ
with_states_in r states = take 2 r ++ (states ++ drop 7 r)

-- the states of the record at a position
unfoldable pub states_at : List ℕ → ℕ → List ℕ
states_at path at = states_in (record_at path at)

-- the path with other states in that record
unfoldable pub with_states_at : List ℕ → ℕ → List ℕ → List ℕ
with_states_at path at states = with_record path at (with_states_in (record_at path at) states)
