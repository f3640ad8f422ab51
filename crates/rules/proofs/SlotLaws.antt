-- The slots of a cell, and those that a match offers. Assumes nothing.
--     Long, matched-long, offered-long     a match says of each live slot whether it is offered
--     live-most                            at most seven are live, and at most as many as there were stores
--     slots-below                          what is offered is one of the slots
use Prim.Native.Nat.{ℕ, zero, suc, ◌+◌, ◌≤◌, ◌<◌}
use mathlib.Core.List.{List, [], ◌∷◌}
use mathlib.Core.Bool.{Bool, true, false, cond}
use mathlib.Core.Path.{◌≡◌, refl, ap}
use native.Mathlib.Omega.{arith}
use lib.Dec.{ltb}
use lib.ListN.{length, get_or}
use borrow.Author.Tests.{ltb-true, ltb-false}
use Rattle.rules.specs.Event as Event
use Rattle.rules.specs.Event.{Matched, offers, slots_from}
use Rattle.rules.specs.Cell.{Fate, kept, dropped, equal_met, also_offered, by_fate, matched_from, live_stores}

-- a match of n slots says of each whether it is offered
abbrev pub Long : ℕ → Matched → Type 0
Long n (offers offered) = length offered ≡ n
Long n Event.equal = Unit

also-long : (n : ℕ) (b : Bool) (m : Matched) → Long n m → Long (suc n) (also_offered b m)
also-long n b (offers offered) e = ap suc e
also-long n b Event.equal e = tt

fate-long : (n : ℕ) (f : Fate) (m : Matched) → Long n m → Long (suc n) (by_fate f m)
fate-long n kept m e = also-long n true m e
fate-long n dropped m e = also-long n false m e
fate-long n equal_met m e = tt

pub matched-long : (fate : ℕ → Fate) (n i : ℕ) → Long n (matched_from fate n i)
unfolding matched_from
matched-long fate zero i = refl
matched-long fate (suc n) i = fate-long n (fate i) (matched_from fate n (i + 1)) (matched-long fate n (i + 1))

pub offered-long : (n : ℕ) (m : Matched) → Long n m → (offered : List Bool) → m ≡ offers offered → length offered ≡ n
offered-long n m long offered e = rw e at long

-- those that are live: at most seven, and at most as many as there were stores
pub live-most : (x : ℕ) → (live_stores x ≤ x) × (live_stores x ≤ 7)
live-most x = by (ltb x 7) refl
  where
    by : (b : Bool) → ltb x 7 ≡ b → (cond b x 7 ≤ x) × (cond b x 7 ≤ 7)
    by true e = omega (arith, ltb-true x 7 e)
    by false e = omega (arith, ltb-false x 7 e)

-- what is offered is one of the slots
pub slots-below : (i : ℕ) (offered : List Bool) (at : ℕ) → at < length (slots_from i offered) →
    get_or (slots_from i offered) at 0 < i + length offered
unfolding slots_from
slots-below i [] at h = absurd (omega arith)
slots-below i (false ∷ more) at h = omega (arith, slots-below (i + 1) more at h)
slots-below i (true ∷ more) zero h = omega arith
slots-below i (true ∷ more) (suc at) h = omega (arith, slots-below (i + 1) more at (omega arith))
