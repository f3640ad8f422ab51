-- A number as text: its decimal digits, as bytes. Assumes nothing.
--     shown      the digits, the most significant first, with no zero in front
--     Spelled    bytes that begin with them
use Rattle.std.specs.Prelude.{ℕ, zero, suc, ◌+◌, ◌/◌, ◌%◌, List, [], ◌∷◌, ◌++◌, Bool, true, false, ◌≡◌, ltb, length}
use Rattle.std.proofs.lemmas.List.Edits.{sets}

-- '0' to '9' are the bytes 48 to 57
abbrev pub digit : ℕ → ℕ
digit d = 48 + d

-- a number below ten, which the Bool says, is one digit; any other is its tenth, and one digit behind that. In so many steps:
-- n are enough
unfoldable pub shown_in : ℕ → Bool → ℕ → List ℕ
shown_in zero small n = digit n ∷ []
shown_in (suc k) true n = digit n ∷ []
shown_in (suc k) false n = shown_in k (ltb (n / 10) 10) (n / 10) ++ (digit (n % 10) ∷ [])

unfoldable pub shown : ℕ → List ℕ
shown n = shown_in n (ltb n 10) n

-- the digits stand from the first byte on, and every other byte is as it was; r says how many there are
pub record Spelled (n : ℕ) (entry exit : List ℕ) (r : ℕ) : Type 0 where
  pub said : r ≡ length (shown n)
  pub left : exit ≡ sets entry 0 (shown n)
