-- Laws of the definition in specs/Decimal.antt: what one more digit makes, and how a text is read byte by byte. Assumes nothing.
use Prim.Native.Nat.{ℕ, ◌+◌, ◌*◌, ◌-◌, ◌^◌, ◌≤◌, ◌<◌}
use mathlib.Core.Path.{◌≡◌, refl, ap, ◌∙◌}
use mathlib.Core.List.{List, [], ◌∷◌}
use native.Mathlib.Numerals.{add-one}
use native.Mathlib.Nat.{not-suc-le-zero}
use native.Mathlib.Omega.{arith}
use borrow.Author.Tests.{lt-ltb, le-ltb, le-leb}
use lib.ListN.{length, get_or, drop, drop_of_length-le}
use lib.Seq.{drop-cons}
use Rattle.decimal.specs.Decimal.{is_digit, with_digit, extended, with_digits, number_spelled, between}
use mathlib.Core.Bool.{true, false, ◌||◌}
use lib.Dec.{ltb}
use Rattle.std.proofs.lemmas.Bool.Decides.{nat_tests}
use Rattle.std.specs.Prelude.{SomeIff}
use Rattle.std.proofs.Common.{Option, Some, None}

module _ (n b : ℕ) where
  pub no_digit : is_digit b ≡ false → None ≡ with_digit n b
  unfolding with_digit
  no_digit e = rw e

  pub too_large : 48 ≤ b → b ≤ 57 → 2 ^ 64 ≤ extended n b → None ≡ with_digit n b
  unfolding with_digit
  too_large l h f = simp (le-leb 48 b l, le-leb b 57 h, le-ltb _ _ f)

  pub one-more : 48 ≤ b → b ≤ 57 → extended n b < 2 ^ 64 → Some (extended n b) ≡ with_digit n b
  unfolding with_digit
  one-more l h f = simp (le-leb 48 b l, le-leb b 57 h, lt-ltb _ _ f)

  -- ten times the number, and the digit, each where it fits
  pub added : (m : ℕ) (r : Option ℕ) → 48 ≤ b → b ≤ 57 → m ≡ n * 10 → SomeIff r (m + (b - 48) < 2 ^ 64) (m + (b - 48)) → r ≡ with_digit n b
  added m None l h e s = too_large l h (omega (arith, s))
  added m (Some v) l h e s = ap Some (omega (arith, s)) ∙ one-more l h (omega (arith, s))

pub behind-bad : (bs : List ℕ) → with_digits None bs ≡ None
unfolding with_digits
behind-bad [] = refl
behind-bad (b ∷ bs) = refl

pub behind-next : (text : List ℕ) (i n : ℕ) → i < length text → with_digits (Some n) (drop i text) ≡ with_digits (with_digit n (get_or text i 0)) (drop (i + 1) text)
unfolding with_digits
behind-next text i n h = rw (add-one, drop-cons text i 0)

pub behind-all : (text : List ℕ) → 0 < length text → with_digits (Some 0) (drop 0 text) ≡ number_spelled text
unfolding number_spelled
behind-all [] h = absurd (not-suc-le-zero h)
behind-all (b ∷ bs) h = refl

pub behind-end : (p : Option ℕ) (text : List ℕ) (i : ℕ) → length text ≤ i → with_digits p (drop i text) ≡ p
unfolding with_digits
behind-end p text i h = rw (drop_of_length-le text {i = i} h)

pub empty : (text : List ℕ) → length text ≡ 0 → None ≡ number_spelled text
unfolding number_spelled
empty [] h = refl
empty (b ∷ bs) h = absurd (omega (arith, h))

module _ (least most n : ℕ) where
  pub no_number : None ≡ between least most None
  unfolding between
  no_number = refl

  pub within : (ltb n least || ltb most n) ≡ false → Some n ≡ between least most (Some n)
  unfolding between
  within h = grind (arith, nat_tests)

  pub outside : (ltb n least || ltb most n) ≡ true → None ≡ between least most (Some n)
  unfolding between
  outside h = grind (arith, nat_tests)
