-- Records of 16 bytes in a list of bytes. Assumes nothing.
--     record_at      the bytes of the record at a position
--     with_record    the list with other bytes in that record's place
use Rattle.std.specs.Prelude.{ℕ, ◌+◌, ◌*◌, List, ◌++◌, take, drop}

unfoldable pub record_at : List ℕ → ℕ → List ℕ
record_at bytes k = take 16 (drop (16 * k) bytes)

unfoldable pub with_record : List ℕ → ℕ → List ℕ → List ℕ
with_record bytes k r = take (16 * k) bytes ++ (r ++ drop (16 * k + 16) bytes)
