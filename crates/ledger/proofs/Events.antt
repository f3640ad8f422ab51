-- Marks on the states of a schedule: each state is as it was, or was Skip and is Pending, and just these are counted. Assumes
-- nothing.
--     StateMarked, StatesMarked          a state, all states after some marks
--     states-active, states-visited      the Active and what is Visited stay
--     pendings-made, pendings-marked     as many more are Pending as were made so
--     counted                            what a mark is counted for
use Prim.Native.Nat.{ℕ, zero, suc, ◌+◌}
use mathlib.Core.List.{List, [], ◌∷◌, map}
use mathlib.Core.Bool.{Bool, true, false, cond, ◌&&◌}
use mathlib.Core.Path.{◌≡◌, refl, sym, ◌∙◌}
use mathlib.Core.Logic.{◌≢◌, ◌⊎◌, inl, inr}
use native.Mathlib.Omega.{arith}
use lib.Dec.{eqb}
use lib.ListN.{get_or, set}
use borrow.Author.Tests.{eqb-true}
use Rattle.rules.specs.Path.{skip, pending, visited, disabled, first_in, active_in, skip_to_pending, marked, made_pending, pendings}
use Rattle.ledger.specs.Balance.{Counted}

-- States

abbrev pub StateMarked : ℕ → ℕ → Type 0
StateMarked x y = (x ≡ y) ⊎ ((x ≡ skip) × (y ≡ pending))

abbrev pub StatesMarked : List ℕ → List ℕ → Type 0
StatesMarked [] [] = Unit {0}
StatesMarked [] (y ∷ ys) = ⊥
StatesMarked (x ∷ xs) [] = ⊥
StatesMarked (x ∷ xs) (y ∷ ys) = StateMarked x y × StatesMarked xs ys

state-trans : (x y z : ℕ) → StateMarked x y → StateMarked y z → StateMarked x z
state-trans x y z (inl p) (inl q) = inl (p ∙ q)
state-trans x y z (inl p) (inr q) = inr (p ∙ q.0, q.1)
state-trans x y z (inr p) (inl q) = inr (p.0, sym q ∙ p.1)
state-trans x y z (inr p) (inr q) = inr (p.0, q.1)

pub states-refl : (xs : List ℕ) → StatesMarked xs xs
states-refl [] = tt
states-refl (x ∷ xs) = (inl refl, states-refl xs)

pub states-trans : (xs ys zs : List ℕ) → StatesMarked xs ys → StatesMarked ys zs → StatesMarked xs zs
states-trans [] [] [] p q = tt
states-trans [] [] (z ∷ zs) p q = q
states-trans [] (y ∷ ys) zs p q = absurd p
states-trans (x ∷ xs) [] zs p q = absurd p
states-trans (x ∷ xs) (y ∷ ys) [] p q = absurd q
states-trans (x ∷ xs) (y ∷ ys) (z ∷ zs) p q = (state-trans x y z p.0 q.0, states-trans xs ys zs p.1 q.1)

explored-marked : (x : ℕ) → StateMarked x (skip_to_pending x)
explored-marked x = go (eqb x skip) refl
  where
    go : (b : Bool) → eqb x skip ≡ b → StateMarked x (cond b pending x)
    go true e = inr (eqb-true x skip e, refl)
    go false e = inl refl

all-explored : (xs : List ℕ) → StatesMarked xs (map skip_to_pending xs)
all-explored [] = tt
all-explored (x ∷ xs) = (explored-marked x, all-explored xs)

one-explored : (xs : List ℕ) (t d : ℕ) → StatesMarked xs (set xs t (skip_to_pending (get_or xs t d)))
one-explored [] t d = tt
one-explored (x ∷ xs) zero d = (explored-marked x, states-refl xs)
one-explored (x ∷ xs) (suc t) d = (inl refl, one-explored xs t d)

pub marked-states : (xs : List ℕ) (t : ℕ) → StatesMarked xs (marked xs t)
unfolding marked
marked-states xs t = go (eqb (get_or xs t visited) disabled)
  where
    go : (b : Bool) → StatesMarked xs (cond b (map skip_to_pending xs) (set xs t (skip_to_pending (get_or xs t visited))))
    go true = all-explored xs
    go false = one-explored xs t visited

-- marks leave the Active
pub states-active : (xs ys : List ℕ) → StatesMarked xs ys → active_in ys ≡ active_in xs
unfolding first_in
states-active [] [] p = refl
states-active [] (y ∷ ys) p = absurd p
states-active (x ∷ xs) [] p = absurd p
states-active (x ∷ xs) (y ∷ ys) (inl e, p) = rw (e, states-active xs ys p)
states-active (x ∷ xs) (y ∷ ys) (inr e, p) = rw (e.0, e.1, states-active xs ys p)

-- and what is Visited
pub states-visited : (xs ys : List ℕ) (t : ℕ) → StatesMarked xs ys → get_or xs t 0 ≡ visited → get_or ys t 0 ≡ visited
states-visited [] [] t p v = v
states-visited [] (y ∷ ys) t p v = absurd p
states-visited (x ∷ xs) [] t p v = absurd p
states-visited (x ∷ xs) (y ∷ ys) zero (inl e, p) v = sym e ∙ v
states-visited (x ∷ xs) (y ∷ ys) zero (inr e, p) v = absurd (omega arith)
states-visited (x ∷ xs) (y ∷ ys) (suc t) p v = states-visited xs ys t p.1 v

-- What is counted

-- no state is both
pub not-both : (x : ℕ) → (eqb x skip && eqb x pending) ≡ false
not-both x = go (eqb x skip) refl (eqb x pending) refl
  where
    go : (a : Bool) → eqb x skip ≡ a → (b : Bool) → eqb x pending ≡ b → (a && b) ≡ false
    go true e true f = let p = eqb-true x skip e in let q = eqb-true x pending f in absurd (omega arith)
    go true e false f = refl
    go false e true f = refl
    go false e false f = refl

pub pendings-made : (xs ys : List ℕ) → StatesMarked xs ys → pendings ys ≡ pendings xs + made_pending xs ys
unfolding pendings made_pending
pendings-made [] [] p = refl
pendings-made [] (y ∷ ys) p = absurd p
pendings-made (x ∷ xs) [] p = absurd p
pendings-made (x ∷ xs) (y ∷ ys) (inl e, p) = let h = pendings-made xs ys p in rw (← e, not-both x) (omega arith)
pendings-made (x ∷ xs) (y ∷ ys) (inr e, p) = let h = pendings-made xs ys p in rw (e.0, e.1) (omega arith)

pub pendings-marked : (xs : List ℕ) (t : ℕ) → pendings (marked xs t) ≡ pendings xs + made_pending xs (marked xs t)
pendings-marked xs t = pendings-made xs (marked xs t) (marked-states xs t)

-- nothing is made Pending where nothing is done
pub none_made : (xs : List ℕ) → made_pending xs xs ≡ 0
none_made xs = let h = pendings-made xs xs (states-refl xs) in omega arith

-- what is not Skip stays
others-stay : (xs ys : List ℕ) (k : ℕ) → StatesMarked xs ys → get_or xs k visited ≢ skip → get_or ys k visited ≡ get_or xs k visited
others-stay [] [] k p n = refl
others-stay [] (y ∷ ys) k p n = absurd p
others-stay (x ∷ xs) [] k p n = absurd p
others-stay (x ∷ xs) (y ∷ ys) zero (inl e, p) n = sym e
others-stay (x ∷ xs) (y ∷ ys) zero (inr e, p) n = absurd (n e.0)
others-stay (x ∷ xs) (y ∷ ys) (suc k) p n = others-stay xs ys k p.1 n

pub counted : Counted
counted = record { each = pendings-marked; only = λ states t k n. others-stay states (marked states t) k (marked-states states t) n }
