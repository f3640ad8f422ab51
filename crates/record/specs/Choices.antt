-- What a load branch chooses, as it is answered. Assumes nothing.
--     offers               a slot, with the mask of all that are offered
--     offered_by, OfLoad    what a load chooses, and what a function that asks for it promises
use Rattle.std.specs.Prelude.{ℕ, List, [], ◌∷◌, Bool, true, cond, ◌&&◌, ◌≡◌, ltb, length, get_or, Option, Some, None}
use Rattle.rules.specs.Machine.{mask_of}
use Rattle.rules.specs.Path as rules
use Rattle.record.specs.Answers.{OfferedSlot}
use Rattle.record.specs.Stands.{BranchStands}
use Rattle.record.specs.declared.Offered.{Offered}

-- each is one of the seven slots
unfoldable pub all_slots : List ℕ → Bool
all_slots [] = true
all_slots (v ∷ vs) = ltb v 7 && all_slots vs

-- the mask has the bits that it had, and one for each of the offers
unfoldable pub offers : ℕ → ℕ → List ℕ → Option Offered
offers slot mask vs = cond (all_slots vs) (Some (record { slot = slot; mask = mask_of mask vs })) None

-- a load whose position is none of its values, or one of whose values is no slot, is expected nowhere: no run has it
unfoldable pub offered_by : rules.Branch → Option Offered
offered_by (rules.schedule s) = None
offered_by (rules.load l) =
    cond (ltb l.pos (length l.values)) (offers (get_or l.values l.pos 0) 0 l.values) None
offered_by (rules.spurious u) = None

-- what is answered at a record that is a load's
pub record OfLoad (path : List ℕ) (at : ℕ) (r : Option Offered) : Type 0 where
  pub slot : OfferedSlot r
  pub is : (l : rules.Load) → BranchStands path at (rules.load l) → r ≡ offered_by (rules.load l)
