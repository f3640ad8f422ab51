-- What an RMW or an exclusive change makes of a value: document 01, "Changes". Assumes nothing.
--     Change, Changed     a change with its operands, and what comes of it
--     applied             what it makes of a value
use Rattle.std.specs.Prelude.{ℕ, ◌+◌, ◌-◌, ◌%◌, ◌^◌, Bool, cond, ltb, eqb}
use Rattle.std.specs.Int.Bits.{bit_and, bit_or, bit_xor}

-- "Changes (both in RMW and exclusive): 0 swap, 1 add, 2 subtract (both wrap at 2^64), 3 and, 4 or, 5 xor, 6 nand, 7 unsigned
-- max, 8 unsigned min, 9 signed max, 10 signed min, 11 compare a, write b, 12 decrement unless zero." [Q17]
pub data Change : Type 0 where
  swap : ℕ → Change
  add : ℕ → Change
  subtract : ℕ → Change
  and : ℕ → Change
  or : ℕ → Change
  xor : ℕ → Change
  nand : ℕ → Change
  max : ℕ → Change
  min : ℕ → Change
  signed_max : ℕ → Change
  signed_min : ℕ → Change
  compare : ℕ → ℕ → Change
  decrement : Change

-- "taken apart into success or failure with its value"
pub data Changed : Type 0 where
  success : ℕ → Changed
  failure : Changed

-- "wrap at 2^64"
abbrev pub word : ℕ
word = 2 ^ 64

-- a number's place among the signed ones: the half from 2^63 on stands below the other
abbrev pub signed : ℕ → ℕ
signed n = (n + 2 ^ 63) % word

abbrev pub greater : Bool → ℕ → ℕ → ℕ
greater below v a = cond below a v

abbrev pub lesser : Bool → ℕ → ℕ → ℕ
lesser below v a = cond below v a

-- what a change makes of a value. "Only kinds 11 and 12 may fail"
unfoldable pub applied : Change → ℕ → Changed
applied (swap a) v = success a
applied (add a) v = success ((v + a) % word)
applied (subtract a) v = success ((v + (word - a)) % word)
applied (and a) v = success (bit_and v a)
applied (or a) v = success (bit_or v a)
applied (xor a) v = success (bit_xor v a)
applied (nand a) v = success (word - 1 - bit_and v a)
applied (max a) v = success (greater (ltb v a) v a)
applied (min a) v = success (lesser (ltb v a) v a)
applied (signed_max a) v = success (greater (ltb (signed v) (signed a)) v a)
applied (signed_min a) v = success (lesser (ltb (signed v) (signed a)) v a)
applied (compare a b) v = cond (eqb v a) (success b) failure
applied decrement v = cond (eqb v 0) failure (success (v - 1))
