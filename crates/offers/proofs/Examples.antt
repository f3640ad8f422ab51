-- Two stores of a cell, the first recorded below the second, computed: the first is offered to a load whose thread has not seen the
-- second, to none that has, and to no RMW.
use Prim.Native.Nat.{ℕ}
use mathlib.Core.List.{List, [], ◌∷◌}
use mathlib.Core.Bool.{true, false}
use mathlib.Core.Path.{◌≡◌, refl}
use lib.ListN.{replicate}
use Rattle.rules.specs.Vector as Vectors
use Rattle.rules.specs.Vector.{zeros, less, at_most}
use Rattle.rules.specs.Seen.{unseen, unseens, seen, seen_through, seen_before_yield}
use Rattle.rules.specs.Event.{offers}
use Rattle.rules.specs.State.{Clocks, Numbers, with_vector, with_number, causality, modification_order, store_at, count, last_yield, none}
use Rattle.rules.specs.Cell.{matched_load, matched_rmw, matched_from, load_fate, rmw_fate, fate_from}

-- thread 0 has made both stores, at its versions 1 and 2; thread 1 knows of the first
clocks : Clocks
clocks =
    with_vector
    (with_vector
    (with_vector (with_vector (replicate 124 (zeros 5)) (causality 0) (2 ∷ 0 ∷ 0 ∷ 0 ∷ 0 ∷ [])) (causality 1)
    (1 ∷ 1 ∷ 0 ∷ 0 ∷ 0 ∷ []))
    (modification_order (store_at 0 0)) (1 ∷ 0 ∷ 0 ∷ 0 ∷ 0 ∷ []))
    (modification_order (store_at 0 1)) (2 ∷ 0 ∷ 0 ∷ 0 ∷ 0 ∷ [])

rows : List (List ℕ)
rows = (1 ∷ unseen ∷ unseen ∷ unseen ∷ unseen ∷ []) ∷ (2 ∷ unseen ∷ unseen ∷ unseen ∷ unseen ∷ []) ∷ replicate 5 (unseens 5)

numbers : Numbers
numbers = with_number (with_number (with_number (replicate 89 0) (count 0) 2) (last_yield 0) none) (last_yield 1) none

unseen-second : matched_load clocks rows numbers 1 0 0 ≡ offers (true ∷ true ∷ [])
unfolding clocks rows numbers matched_load matched_from load_fate fate_from less at_most Vectors.equal seen seen_through seen_before_yield
unseen-second = refl

seen-second : matched_load clocks rows numbers 0 0 0 ≡ offers (false ∷ true ∷ [])
unfolding clocks rows numbers matched_load matched_from load_fate fate_from less at_most Vectors.equal seen seen_through seen_before_yield
seen-second = refl

to-an-rmw : matched_rmw clocks numbers 0 ≡ offers (false ∷ true ∷ [])
unfolding clocks rows numbers matched_rmw matched_from rmw_fate fate_from less at_most Vectors.equal
to-an-rmw = refl
