-- How many choices a mark opens, over plain lists of states. Assumes nothing.
--     is_skip, skips, opened_at      the count as a walk makes it: one for a Skip that is the target, or for each Skip
--     made-same                    states that stay open nothing
--     made-set, made_all           one state explored, and all of them
--     made-marked                  a mark opens what that count says
use Prim.Native.Nat.{ℕ, zero, suc, ◌+◌}
use mathlib.Core.List.{List, [], ◌∷◌, map}
use mathlib.Core.Bool.{Bool, true, false, cond, ◌&&◌}
use mathlib.Core.Path.{◌≡◌, refl}
use native.Mathlib.Omega.{arith}
use borrow.Author.Tests.{eqb-true}
use lib.Dec.{eqb}
use lib.ListN.{get_or, set}
use Rattle.rules.specs.Path.{skip_to_pending, marked, made_pending, skip, pending, disabled, visited}

abbrev pub is_skip : ℕ → ℕ
is_skip s = cond (eqb s skip) 1 0

unfoldable pub skips : List ℕ → ℕ
skips [] = 0
skips (s ∷ states) = is_skip s + skips states

unfoldable pub opened_at : List ℕ → ℕ → ℕ
opened_at states t = cond (eqb (get_or states t visited) disabled) (skips states) (is_skip (get_or states t visited))

-- one state, before and after
abbrev turns : ℕ → ℕ → ℕ
turns x y = cond (eqb x skip && eqb y pending) 1 0

same_by : (x : ℕ) (b : Bool) → eqb x skip ≡ b → turns x x ≡ 0
same_by x true e = let f : x ≡ skip = eqb-true x skip e in rw f
same_by x false e = rw e

turns_same : (x : ℕ) → turns x x ≡ 0
turns_same x = same_by x (eqb x skip) refl

explored-by : (x : ℕ) (b : Bool) → eqb x skip ≡ b → turns x (skip_to_pending x) ≡ is_skip x
explored-by x true e = rw e
explored-by x false e = rw e

turns-explored : (x : ℕ) → turns x (skip_to_pending x) ≡ is_skip x
turns-explored x = explored-by x (eqb x skip) refl

pub made-same : (l : List ℕ) → made_pending l l ≡ 0
unfolding made_pending
made-same [] = refl
made-same (x ∷ l) = omega (arith, turns_same x, made-same l)

pub made-set : (l : List ℕ) (t : ℕ) → made_pending l (set l t (skip_to_pending (get_or l t visited))) ≡ is_skip (get_or l t visited)
unfolding made_pending
made-set [] t = refl
made-set (x ∷ l) zero = omega (arith, turns-explored x, made-same l)
made-set (x ∷ l) (suc t) = omega (arith, turns_same x, made-set l t)

pub made_all : (l : List ℕ) → made_pending l (map skip_to_pending l) ≡ skips l
unfolding made_pending skips
made_all [] = refl
made_all (x ∷ l) = omega (arith, turns-explored x, made_all l)

either : (b : Bool) (l m n : List ℕ) (p q : ℕ) → made_pending l m ≡ p → made_pending l n ≡ q → made_pending l (cond b m n) ≡ cond b p q
either true l m n p q e f = e
either false l m n p q e f = f

pub made-marked : (l : List ℕ) (t : ℕ) → made_pending l (marked l t) ≡ opened_at l t
unfolding marked opened_at
made-marked l t =
    either (eqb (get_or l t visited) disabled) l (map skip_to_pending l) (set l t (skip_to_pending (get_or l t visited))) (skips l) (is_skip (get_or l t visited)) (made_all l) (made-set l t)
