-- Row counts, thread by thread. Assumes nothing.
--     so_far                                the counts in thread t after k of its rows
--     so-at, so-more, so-next, so-end      one row more, the next thread, all threads
--     first-at, total-next, total-end      the rows before a thread
use Prim.Native.Nat.{ℕ, zero, suc, ◌+◌, ◌*◌, ◌≤◌, ◌<◌}
use mathlib.Core.List.{List, [], ◌∷◌}
use mathlib.Core.Bool.{Bool, true, false, cond}
use mathlib.Core.Path.{◌≡◌, refl, ap, sym, ◌∙◌}
use native.Mathlib.Omega.{arith}
use lib.Dec.{ltb, leb, eqb}
use lib.ListN.{length, get_or, set, take, replicate, length-replicate}
use lib.Seq.{take-nil}
use borrow.Author.Tests.{leb-true, eqb-true, ltb-false, le-ltb, le-leb, eq-eqb}
use Rattle.rules.specs.Table.{max_rows, counts_fine, count_fine, total, first_rows}
use Rattle.rules.proofs.MeasureRows.{both_left, both_right}
use Rattle.returns.proofs.TokenLaws.{also}

abbrev pub so_far : List ℕ → ℕ → ℕ → List ℕ
so_far [] t k = []
so_far (c ∷ cs) zero k = k ∷ replicate (length cs) 0
so_far (c ∷ cs) (suc t) k = c ∷ so_far cs t k

pub so-long : (cs : List ℕ) (t k : ℕ) → length (so_far cs t k) ≡ length cs
so-long [] t k = refl
so-long (c ∷ cs) zero k = ap suc (length-replicate (length cs) 0)
so-long (c ∷ cs) (suc t) k = ap suc (so-long cs t k)

pub so-at : (cs : List ℕ) (t k : ℕ) → t < length cs → get_or (so_far cs t k) t 0 ≡ k
so-at [] t k h = absurd (omega arith)
so-at (c ∷ cs) zero k h = refl
so-at (c ∷ cs) (suc t) k h = so-at cs t k (omega arith)

pub so-more : (cs : List ℕ) (t k v : ℕ) → set (so_far cs t k) t v ≡ so_far cs t v
so-more [] t k v = refl
so-more (c ∷ cs) zero k v = refl
so-more (c ∷ cs) (suc t) k v = ap (λ (l : List ℕ). c ∷ l) (so-more cs t k v)

pub so-start : (cs : List ℕ) → so_far cs 0 0 ≡ replicate (length cs) 0
so-start [] = refl
so-start (c ∷ cs) = refl

pub so-next : (cs : List ℕ) (t : ℕ) → so_far cs t (get_or cs t 0) ≡ so_far cs (suc t) 0
so-next [] t = refl
so-next (c ∷ cs) zero = ap (λ (l : List ℕ). c ∷ l) (sym (so-start cs))
so-next (c ∷ cs) (suc t) = ap (λ (l : List ℕ). c ∷ l) (so-next cs t)

-- "0 past the thread count"
count-zero : (threads i c : ℕ) (cs : List ℕ) → threads ≤ i → counts_fine threads i (c ∷ cs) ≡ true → (c ≡ 0) × (counts_fine threads (i + 1) cs ≡ true)
unfolding counts_fine
count-zero threads i c cs l h = (
  eqb-true c 0 (sym (ap (λ (x : Bool). cond x (leb c max_rows) (eqb c 0)) (le-ltb i threads l)) ∙ both_left (count_fine threads i c) _ h),
  both_right (count_fine threads i c) _ h,
)

count-on : (threads i c : ℕ) (cs : List ℕ) → counts_fine threads i (c ∷ cs) ≡ true → counts_fine threads (i + 1) cs ≡ true
unfolding counts_fine
count-on threads i c cs h = both_right (count_fine threads i c) _ h

zeros-past : (threads i : ℕ) (cs : List ℕ) → threads ≤ i → counts_fine threads i cs ≡ true → replicate (length cs) 0 ≡ cs
zeros-past threads i [] l h = refl
zeros-past threads i (c ∷ cs) l h =
    let k = count-zero threads i c cs l h in λ j. sym k.0 j ∷ zeros-past threads (i + 1) cs (omega arith) k.1 j

pub so-end : (threads i t : ℕ) (cs : List ℕ) → i + t ≡ threads → counts_fine threads i cs ≡ true → so_far cs t 0 ≡ cs
so-end threads i t [] e h = refl
so-end threads i zero (c ∷ cs) e h = so-start (c ∷ cs) ∙ zeros-past threads i (c ∷ cs) (omega arith) h
so-end threads i (suc t) (c ∷ cs) e h = ap (λ (l : List ℕ). c ∷ l) (so-end threads (i + 1) t cs (omega arith) (count-on threads i c cs h))

-- "five row counts"
pub count-few : (threads i : ℕ) (cs : List ℕ) → counts_fine threads i cs ≡ true → (t : ℕ) → get_or cs t 0 ≤ max_rows
unfolding counts_fine
count-few threads i [] h t = omega arith
count-few threads i (c ∷ cs) h zero = by (ltb i threads) (both_left (count_fine threads i c) _ h)
  where
    by : (x : Bool) → cond x (leb c max_rows) (eqb c 0) ≡ true → c ≤ max_rows
    by true e = leb-true c max_rows e
    by false e = omega (arith, eqb-true c 0 e)
count-few threads i (c ∷ cs) h (suc t) = count-few threads (i + 1) cs (both_right (count_fine threads i c) _ h) t

-- The rows before a thread

pub total-next : (cs : List ℕ) (t : ℕ) → total (take (suc t) cs) ≡ total (take t cs) + get_or cs t 0
unfolding total
total-next [] zero = omega arith
total-next [] (suc t) = omega arith
total-next (c ∷ cs) zero = omega arith
total-next (c ∷ cs) (suc t) = omega (arith, total-next cs t)

pub first-at : (n : ℕ) (cs : List ℕ) (t : ℕ) → t < length cs → get_or (first_rows n cs) t 0 ≡ n + total (take t cs)
unfolding first_rows total
first-at n [] t h = absurd (omega arith)
first-at n (c ∷ cs) zero h = omega arith
first-at n (c ∷ cs) (suc t) h = first-at (n + c) cs t (omega arith) ∙ (omega arith)

total-zero : (threads i : ℕ) (cs : List ℕ) → threads ≤ i → counts_fine threads i cs ≡ true → total cs ≡ 0
unfolding total
total-zero threads i [] l h = refl
total-zero threads i (c ∷ cs) l h =
    let k = count-zero threads i c cs l h in omega (arith, k.0, total-zero threads (i + 1) cs (omega arith) k.1)

pub total-end : (threads i t : ℕ) (cs : List ℕ) → i + t ≡ threads → counts_fine threads i cs ≡ true → total (take t cs) ≡ total cs
unfolding total
total-end threads i t [] e h = ap total (take-nil t)
total-end threads i zero (c ∷ cs) e h = sym (total-zero threads i (c ∷ cs) (omega arith) h)
total-end threads i (suc t) (c ∷ cs) e h = ap (λ (n : ℕ). c + n) (total-end threads (i + 1) t cs (omega arith) (count-on threads i c cs h))

pub total-take : (cs : List ℕ) (k : ℕ) → total (take k cs) ≤ total cs
unfolding total
total-take [] zero = omega arith
total-take [] (suc k) = omega arith
total-take (c ∷ cs) zero = omega arith
total-take (c ∷ cs) (suc k) = omega (arith, total-take cs k)

pub total-few : (cs : List ℕ) → ((k : ℕ) → get_or cs k 0 ≤ max_rows) → total cs ≤ max_rows * length cs
unfolding total
total-few [] h = omega arith
total-few (c ∷ cs) h = omega (arith, h 0, total-few cs (λ k. h (suc k)))

-- counts that are 0 past the thread count
pub counts-made : (threads i : ℕ) (cs : List ℕ) → ((k : ℕ) → get_or cs k 0 ≤ max_rows) → ((k : ℕ) → threads ≤ i + k → get_or cs k 0 ≡ 0) → counts_fine threads i cs ≡ true
unfolding counts_fine
counts-made threads i [] few past = refl
counts-made threads i (c ∷ cs) few past =
    also (by (ltb i threads) refl) (counts-made threads (i + 1) cs (λ k. few (suc k)) (λ k l. past (suc k) (omega arith)))
  where
    by : (x : Bool) → ltb i threads ≡ x → cond x (leb c max_rows) (eqb c 0) ≡ true
    by true e = le-leb c max_rows (few 0)
    by false e = eq-eqb c 0 (past 0 (omega (arith, ltb-false i threads e)))

-- one row more
pub total-set : (cs : List ℕ) (k v : ℕ) → k < length cs → total (set cs k v) + get_or cs k 0 ≡ total cs + v
unfolding total
total-set [] k v h = absurd (omega arith)
total-set (c ∷ cs) zero v h = omega arith
total-set (c ∷ cs) (suc k) v h = omega (arith, total-set cs k v (omega arith))

-- where the counts from thread k on are 0
pub total-past : (cs : List ℕ) (k : ℕ) → ((i : ℕ) → k ≤ i → get_or cs i 0 ≡ 0) → total (take k cs) ≡ total cs
unfolding total
total-past [] k h = ap total (take-nil k)
total-past (c ∷ cs) zero h = omega (arith, h 0 (omega arith), total-past cs 0 (λ i l. h (suc i) (omega arith)))
total-past (c ∷ cs) (suc k) h = ap (λ (n : ℕ). c + n) (total-past cs k (λ i l. h (suc i) (omega arith)))
