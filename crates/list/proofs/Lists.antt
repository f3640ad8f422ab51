-- A list of five, written place by place. Assumes nothing.
--     copied     each place of one written from another: the other
--     both       a test that has passed with another
use Rattle.std.proofs.Common.{◌≡◌, ℕ, Bool, true, false, eqb, List, [], ◌∷◌, length, get_or, set, refl, arith}
use mathlib.Core.Bool.{◌&&◌}
use borrow.Author.Tests.{eqb-true}

record Five {A : Type 0} (xs : List A) : Type 0 where
  a : A
  b : A
  c : A
  d : A
  e : A
  is : xs ≡ a ∷ b ∷ c ∷ d ∷ e ∷ []

five : {A : Type 0} (xs : List A) → length xs ≡ 5 → Five xs
five [] h = absurd (omega (arith, h))
five (a ∷ []) h = absurd (omega (arith, h))
five (a ∷ b ∷ []) h = absurd (omega (arith, h))
five (a ∷ b ∷ c ∷ []) h = absurd (omega (arith, h))
five (a ∷ b ∷ c ∷ d ∷ []) h = absurd (omega (arith, h))
five (a ∷ b ∷ c ∷ d ∷ e ∷ []) h = record { a = a; b = b; c = c; d = d; e = e; is = refl }
five (a ∷ b ∷ c ∷ d ∷ e ∷ f ∷ xs) h = absurd (omega (arith, h))

pub copied : {A : Type 0} (d : A) (ys ts : List A) → length ys ≡ 5 → length ts ≡ 5 →
    set (set (set (set (set ys 0 (get_or ts 0 d)) 1 (get_or ts 1 d)) 2 (get_or ts 2 d)) 3 (get_or ts 3 d)) 4 (get_or ts 4 d) ≡ ts
copied d ys ts h k =
    let y = five ys h in
    let t = five ts k in
    rw (y.is, t.is) refl

pub both : (b : Bool) (n : ℕ) → b && eqb n 5 ≡ true → n ≡ 5
both true n h = eqb-true n 5 h
both false n h = cc
