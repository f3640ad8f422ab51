-- The laws of changes: what a change makes of a value at 64 bits. Assumes nothing.
--     meant                     a change that was taken apart
--     subtracted, signed-less   sums that wrap
--     greater-.., lesser-..     by one test, made on signed numbers, and by what the library's max and min are
--     compared-.., decremented-..     by the test that a change makes
use borrow.Author.Tests.{ltb-true, ltb-false}
use mathlib.Core.Logic.{◌⊎◌, inl, inr, ⊎_elim}
use Prim.Native.Nat.{◌≤◌}
use Rattle.std.proofs.Common.{refl, ◌≡◌, ℕ, ◌+◌, ◌-◌, ◌%◌, ◌<◌, Bool, true, false, ltb, ◌≢◌, sym, ap, ◌∙◌, arith, eq-eqb, ne_eqb}
use Rattle.rules.specs.Change as rules
use Rattle.rules.specs.Change.{applied, word, signed, greater, lesser, success, failure}
use Rattle.change.specs.declared.Change.{Change}
use Rattle.change.specs.Changes.{change_meant}

pub meant : (change m : Change) (v : ℕ) (r : rules.Changed) → change ≡ m → r ≡ applied (change_meant m) v → r ≡ applied (change_meant change) v
meant change m v r e f = f ∙ ap (λ (x : Change). applied (change_meant x) v) (sym e)

pub subtracted : (r a v : ℕ) → r < word → a < word → (r + a) % word ≡ v → r ≡ (v + (word - a)) % word
subtracted r a v h k e = omega arith

pub signed-less : (x y p q : ℕ) → p ≡ signed x → q ≡ signed y → ltb p q ≡ ltb (signed x) (signed y)
signed-less x y p q e f = rw (e, f)

module _ (below : Bool) (x y : ℕ) where
  pub greater-other : (b : Bool) → b ≡ below → b ≡ true → y ≡ greater below x y
  greater-other b e f = rw (← e, f)

  pub greater-own : (b : Bool) → b ≡ below → b ≡ false → x ≡ greater below x y
  greater-own b e f = rw (← e, f)

  pub lesser-own : (b : Bool) → b ≡ below → b ≡ true → x ≡ lesser below x y
  lesser-own b e f = rw (← e, f)

  pub lesser-other : (b : Bool) → b ≡ below → b ≡ false → y ≡ lesser below x y
  lesser-other b e f = rw (← e, f)

flag : (b : Bool) → (b ≡ true) ⊎ (b ≡ false)
flag true = inl refl
flag false = inr refl

module _ (v a r : ℕ) where
  pub greater-by : (v < a → r ≡ a) → (a ≤ v → r ≡ v) → r ≡ greater (ltb v a) v a
  greater-by f g = ⊎_elim (λ e. rw e (f (ltb-true v a e))) (λ e. rw e (g (ltb-false v a e))) (flag (ltb v a))

  pub lesser-by : (v < a → r ≡ v) → (a ≤ v → r ≡ a) → r ≡ lesser (ltb v a) v a
  lesser-by f g = ⊎_elim (λ e. rw e (f (ltb-true v a e))) (λ e. rw e (g (ltb-false v a e))) (flag (ltb v a))

module _ (v : ℕ) where
  pub compared_same : (a b : ℕ) → v ≡ a → success b ≡ applied (rules.compare a b) v
  unfolding applied
  compared_same a b e = rw (eq-eqb v a e)

  pub compared-other : (a b : ℕ) → v ≢ a → failure ≡ applied (rules.compare a b) v
  unfolding applied
  compared-other a b n = rw (ne_eqb v a n)

  pub decremented-none : v ≡ 0 → failure ≡ applied rules.decrement v
  unfolding applied
  decremented-none e = rw (eq-eqb v 0 e)

  pub decremented-some : v ≢ 0 → success (v - 1) ≡ applied rules.decrement v
  unfolding applied
  decremented-some n = rw (ne_eqb v 0 n)
