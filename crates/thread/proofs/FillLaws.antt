-- The laws of a list that is filled from its front, for loops that set one place after the other. Assumes nothing.
--     fill_on      one more place
--     fill-all     all of it
use Prim.Native.Nat.{ℕ, ◌+◌, ◌≤◌, ◌<◌}
use mathlib.Core.List.{List}
use mathlib.Core.Path.{◌≡◌, refl, ap, sym, ◌∙◌}
use native.Mathlib.Numerals.{add-one}
use lib.ListN.{length, get_or, set, take}
use lib.Seq.{take-suc, take-suc-set, take_all}

module _ {A : Type 0} (whole l : List A) (i : ℕ) (done : take i l ≡ take i whole) where
  pub fill_on : i < length l → i < length whole → (v d : A) → v ≡ get_or whole i d → take (i + 1) (set l i v) ≡ take (i + 1) whole
  fill_on h k v d e =
      ap (λ (n : ℕ). take n (set l i v)) (add-one i)
      ∙ take-suc-set l i v h
      ∙ (rw (done, e) refl)
      ∙ sym (take-suc whole i d k)
      ∙ ap (λ (n : ℕ). take n whole) (sym (add-one i))

  pub fill-all : length l ≤ i → length whole ≤ i → l ≡ whole
  fill-all h k = sym (take_all i l h) ∙ done ∙ take_all i whole k
