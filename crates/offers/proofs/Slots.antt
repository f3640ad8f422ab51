-- The slots that are named by what is offered. Assumes nothing.
--     offered-among        a slot that is offered is among them
--     among-offered        and only such a slot
--     slots-rise           they rise
use Prim.Native.Nat.{ℕ, zero, suc, ◌+◌, ◌≤◌, ◌<◌}
use mathlib.Core.List.{List, [], ◌∷◌}
use mathlib.Core.Bool.{Bool, true, false, false≢true}
use mathlib.Core.Path.{◌≡◌, refl, sym}
use native.Mathlib.Omega.{arith}
use lib.ListN.{length, get_or}
use Rattle.rules.specs.Event.{slots_from, slots_of}
use Rattle.ledger.specs.History.{Every}
use Rattle.ledger.proofs.Lists.{every_map}
use Rattle.offers.specs.Offered.{Among, Rising}

among_next : (x y : ℕ) (ys : List ℕ) → Among x ys → Among x (y ∷ ys)
among_next x y ys a = (suc a.0, omega (arith, a.1), a.2)

among_later : (x y : ℕ) (ys : List ℕ) → Among x (y ∷ ys) → (x ≡ y → ⊥) → Among x ys
among_later x y ys (zero, b, e) n = absurd (n (sym e))
among_later x y ys (suc k, b, e) n = (k, omega arith, e)

among-from : (os : List Bool) (i k : ℕ) → get_or os k false ≡ true → Among (i + k) (slots_from i os)
unfolding slots_from
among-from [] i k e = absurd (false≢true e)
among-from (true ∷ os) i zero e = (0, omega arith, omega arith)
among-from (false ∷ os) i zero e = absurd (false≢true e)
among-from (true ∷ os) i (suc k) e =
    let f : i + suc k ≡ i + 1 + k =
    omega arith in rw f (among_next (i + 1 + k) i (slots_from (i + 1) os) (among-from os (i + 1) k e))
among-from (false ∷ os) i (suc k) e = let f : i + suc k ≡ i + 1 + k = omega arith in rw f (among-from os (i + 1) k e)

-- one place on
further : (o : Bool) (os : List Bool) (i x : ℕ) → (k : ℕ) × (x ≡ i + 1 + k) × (k < length os) × (get_or os k false ≡ true) →
    (k : ℕ) × (x ≡ i + k) × (k < length (o ∷ os)) × (get_or (o ∷ os) k false ≡ true)
further o os i x (k, e, b, f) = (suc k, omega arith, omega arith, f)

from-among : (os : List Bool) (i x : ℕ) → Among x (slots_from i os) →
    (k : ℕ) × (x ≡ i + k) × (k < length os) × (get_or os k false ≡ true)
unfolding slots_from
from-among [] i x (k, b, e) = absurd (omega arith)
from-among (true ∷ os) i x (zero, b, e) = (0, omega arith, omega arith, refl)
from-among (true ∷ os) i x (suc k, b, e) = further true os i x (from-among os (i + 1) x (k, omega arith, e))
from-among (false ∷ os) i x a = further false os i x (from-among os (i + 1) x a)

-- from slot 0 on
pub offered-among : (os : List Bool) (k : ℕ) → get_or os k false ≡ true → Among k (slots_of os)
offered-among os k e = let f : 0 + k ≡ k = omega arith in rw f at (among-from os 0 k e)

pub among-offered : (os : List Bool) (k : ℕ) → Among k (slots_of os) → (k < length os) × (get_or os k false ≡ true)
among-offered os k a =
    let h = from-among os 0 k a in
    let e : h.0 ≡ k = omega (arith, h.1) in
    (omega (arith, h.2), rw e at h.3)

from_on : (os : List Bool) (i : ℕ) → Every (λ y. i ≤ y) (slots_from i os)
unfolding slots_from
from_on [] i = tt
from_on (true ∷ os) i =
    (omega arith, every_map (λ y. i + 1 ≤ y) (λ y. i ≤ y) (slots_from (i + 1) os) (λ y h. omega arith) (from_on os (i + 1)))
from_on (false ∷ os) i = every_map (λ y. i + 1 ≤ y) (λ y. i ≤ y) (slots_from (i + 1) os) (λ y h. omega arith) (from_on os (i + 1))

pub slots-rise : (os : List Bool) (i : ℕ) → Rising (slots_from i os)
unfolding slots_from
slots-rise [] i = tt
slots-rise (true ∷ os) i = (
  every_map (λ y. i + 1 ≤ y) (λ y. i < y) (slots_from (i + 1) os) (λ y h. omega arith) (from_on os (i + 1)),
  slots-rise os
      (i + 1),
)
slots-rise (false ∷ os) i = slots-rise os (i + 1)

pub among-some : (x : ℕ) (xs : List ℕ) → Among x xs → 0 < length xs
among-some x xs a = omega (arith, a.1)
