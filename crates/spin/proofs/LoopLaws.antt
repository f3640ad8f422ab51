-- The laws of the walks that find a loop: what is left to be asked from place i on, up to an end. Assumes nothing.
--     first_on, first_found, first-none                            any walk
--     same_from                                                    two steps of the same row
--     repeats-few, repeats-from, repeats-on, repeats-not, repeats-all      that of `repeats`
--     period-from, yields-from                                     where `period` and `yields` begin
use Prim.Native.Nat.{ℕ, suc, ◌+◌, ◌-◌, ◌*◌, ◌≤◌, ◌<◌}
use mathlib.Core.List.{List}
use Rattle.std.specs.Prelude.{Option}
use mathlib.Core.Bool.{Bool, true, false, cond, not, ◌&&◌}
use mathlib.Core.Path.{◌≡◌, refl}
use native.Mathlib.Omega.{arith}
use lib.Dec.{eqb}
use borrow.Author.Tests.{le-leb, lt-leb}
use Rattle.rules.specs.Table.{max_rows}
use Rattle.spin.specs.Loops.{first_of, every, some, least, same_row, repeats_in, period_of, is_yield, yields_in}

module _ {A : Type 0} (test : ℕ → Bool) (found : ℕ → A) (none : A) (end i : ℕ) where
  left_one : i < end → first_of test found none (end - i) i ≡ cond (test i) (found i) (first_of test found none (end - (i + 1)) (i + 1))
  unfolding first_of
  left_one h = let e : end - i ≡ suc (end - (i + 1)) = omega arith in rw e

  pub first_on : i < end → test i ≡ false → first_of test found none (end - (i + 1)) (i + 1) ≡ first_of test found none (end - i) i
  first_on h e = rw (left_one h, e)

  pub first_found : i < end → test i ≡ true → first_of test found none (end - i) i ≡ found i
  first_found h e = rw (left_one h, e)

  pub first-none : end ≤ i → first_of test found none (end - i) i ≡ none
  unfolding first_of
  first-none h = let e : end - i ≡ 0 = omega arith in rw e

-- two steps' threads and rows, once they are read
pub same_from : {t u k l t₁ u₁ k₁ l₁ : ℕ} → t ≡ t₁ → u ≡ u₁ → k ≡ k₁ → l ≡ l₁ → eqb t u && eqb k l ≡ eqb t₁ u₁ && eqb k₁ l₁
same_from p q e f = rw (p, q, e, f)

-- whether each step from i on is of the row of the one p before it
abbrev pub repeats_left : List ℕ → ℕ → ℕ → ℕ → Bool
repeats_left trace n p i = every (λ (j : ℕ). same_row trace j (j - p)) (n - i) i

module _ (trace : List ℕ) (n p : ℕ) where
  pub repeats-few : n < 3 * p → false ≡ repeats_in trace n p
  unfolding repeats_in
  repeats-few h = rw (lt-leb (3 * p) n h)

  pub repeats-from : 3 * p ≤ n → repeats_left trace n p (n - 2 * p) ≡ repeats_in trace n p
  unfolding repeats_in
  repeats-from h = let e : n - (n - 2 * p) ≡ 2 * p = omega arith in rw (le-leb (3 * p) n h, e)

  module _ (i : ℕ) where
    pub repeats-on : i < n → same_row trace i (i - p) ≡ true → repeats_left trace n p (i + 1) ≡ repeats_left trace n p i
    repeats-on h e = first_on (λ (j : ℕ). not (same_row trace j (j - p))) (λ (j : ℕ). false) true n i h (rw e)

    pub repeats-not : i < n → same_row trace i (i - p) ≡ false → repeats_left trace n p i ≡ false
    repeats-not h e = first_found (λ (j : ℕ). not (same_row trace j (j - p))) (λ (j : ℕ). false) true n i h (rw e)

    pub repeats-all : n ≤ i → repeats_left trace n p i ≡ true
    repeats-all h = first-none (λ (j : ℕ). not (same_row trace j (j - p))) (λ (j : ℕ). false) true n i h

-- the lengths of a loop that are left at p, and the steps that are left at i
abbrev pub period_left : List ℕ → ℕ → ℕ → Option ℕ
period_left trace n p = least (repeats_in trace n) (suc max_rows - p) p

pub period-from : (trace : List ℕ) (n : ℕ) → period_left trace n 1 ≡ period_of trace n
unfolding period_of
period-from trace n = refl

abbrev pub yields_left : List ℕ → ℕ → ℕ → Bool
yields_left trace n i = some (is_yield trace) (n - i) i

pub yields-from : (trace : List ℕ) (n p : ℕ) {i : ℕ} → i ≡ n - p → yields_left trace n i ≡ yields_in trace n p
unfolding yields_in
yields-from trace n p e = rw e
