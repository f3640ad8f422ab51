-- What an answer tells its caller of its numbers. Assumes nothing.
use Rattle.std.specs.Prelude.{ℕ, ◌-◌, ◌≤◌, ◌<◌, cond, ◌≡◌, ltb, Option, Some, None}
use Rattle.record.specs.declared.Offered.{Offered}

-- a slot that was chosen is one of the seven
abbrev pub OfferedSlot : Option Offered → Type 0
OfferedSlot (Some o) = o.slot < 7
OfferedSlot None = Unit

-- the slot and the mask are those that are offered
pub record OfferIs (offer r : Option Offered) : Type 0 where
  pub slot : OfferedSlot r
  pub is : r ≡ offer

-- how many of at most seven values follow a position. Of more none is counted: no record has them
pub record Left (pos len r : ℕ) : Type 0 where
  pub few : r ≤ 6
  pub is : r ≡ cond (ltb 7 len) 0 (len - 1 - pos)

-- a count, and the most that it can be
pub record CountIs (most n r : ℕ) : Type 0 where
  pub few : r ≤ most
  pub is : r ≡ n
