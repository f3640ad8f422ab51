-- Which number a text of decimal digits spells. A text is the list of its bytes. Assumes nothing.
--     with_digit        a number with one more digit behind it
--     number_spelled    the number that a text spells
--     between          a number in a range, and nothing else
use Rattle.std.specs.Prelude.{ℕ, ◌+◌, ◌*◌, ◌-◌, ◌^◌, List, [], ◌∷◌, Bool, cond, ◌&&◌, ltb, leb, Option, Some, None}

-- '0' to '9' are the bytes 48 to 57
abbrev pub is_digit : ℕ → Bool
is_digit b = leb 48 b && leb b 57

abbrev pub extended : ℕ → ℕ → ℕ
extended n b = 10 * n + (b - 48)

-- nothing where the byte is no digit, or the number does not fit 64 bits
unfoldable pub with_digit : ℕ → ℕ → Option ℕ
with_digit n b = cond (is_digit b && ltb (extended n b) (2 ^ 64)) (Some (extended n b)) None

-- the digits behind what was read so far
unfoldable pub with_digits : Option ℕ → List ℕ → Option ℕ
with_digits p [] = p
with_digits (Some n) (b ∷ bs) = with_digits (with_digit n b) bs
with_digits None (b ∷ bs) = None

-- at least one
unfoldable pub number_spelled : List ℕ → Option ℕ
number_spelled [] = None
number_spelled (b ∷ bs) = with_digits (Some 0) (b ∷ bs)

-- not below least and not above most
unfoldable pub between : ℕ → ℕ → Option ℕ → Option ℕ
between least most (Some n) = cond (leb least n && leb n most) (Some n) None
between least most None = None
