-- Bytes put into a lent buffer as far as there is room, and counted all the same. Assumes nothing.
--     Puts     what is left in the buffer, and the place behind the bytes
--     ToPut    what is still to be put here, of all that was to be put there
use Rattle.std.specs.Prelude.{ℕ, ◌+◌, ◌≤◌, List, cond, ◌≡◌, leb, length}
use Rattle.std.proofs.lemmas.List.Edits.{sets}

-- the last place that is counted: no buffer is longer
abbrev pub last : ℕ
last = 18446744073709551615

abbrev pub up_to_last : ℕ → ℕ
up_to_last n = cond (leb n last) n last

-- where a byte would stand past the end, `sets` changes nothing
pub record Puts (entry exit : List ℕ) (at : ℕ) (bytes : List ℕ) (r : ℕ) : Type 0 where
  pub left : exit ≡ sets entry at bytes
  pub behind : r ≡ up_to_last (at + length bytes)

-- no place or buffer is past the last
pub record ToPut (entry now : List ℕ) (at to : ℕ) (all rest : List ℕ) : Type 0 where
  pub whole : (exit : List ℕ) (r : ℕ) → Puts now exit to rest r → Puts entry exit at all r
  pub fits : to ≤ last
  pub long : length now ≡ length entry
  pub short : length entry ≤ last
