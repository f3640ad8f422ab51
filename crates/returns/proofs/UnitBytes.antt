-- What is read of a condition is bytes. Assumes nothing.
--     OfBytes, unit-bytes     a unit
use Prim.Native.Nat.{ℕ, ◌+◌, ◌-◌, ◌*◌, ◌<◌}
use mathlib.Core.List.{List, [], ◌∷◌}
use mathlib.Core.Bool.{Bool, not, ◌&&◌}
use mathlib.Core.Path.{◌≡◌, refl}
use native.Mathlib.Omega.{arith}
use lib.Dec.{leb, eqb}
use lib.ListN.{length, get_or}
use borrow.Author.Tests.{leb-true}
use Rattle.rules.specs.Condition.{is_sign}
use Rattle.rules.specs.ConditionTree.{AllBytes}
use Rattle.rules.specs.Token.{is_between, token, past_token, content, Found, nothing, found, only, number_in}
use Rattle.rules.specs.Text as Text
use Rattle.rules.specs.Text.{symbols, symbol_in, thread_register_in, comparison_of, unit_at}
use Rattle.rules.proofs.MeasureRows.{both_left, both_right}
use Rattle.returns.proofs.NumberLaws.{only-found, only_if-found, place-below}
use Rattle.returns.proofs.ByteLaws.{little-bytes}

abbrev pub OfBytes : Text.Unit → Type 0
OfBytes Text.none = Unit {0}
OfBytes (Text.unit bytes rest) = AllBytes bytes
OfBytes (Text.broken bytes rest) = Unit {0}

-- five threads of four registers
register-few : (bs : List ℕ) (at : ℕ) → thread_register_in bs ≡ found at → at < 20
unfolding thread_register_in
register-few bs at e =
    let front = eqb (length bs) 4 && is_between 48 52 (get_or bs 0 0) in
    let signs = front && eqb (get_or bs 1 0) 46 && eqb (get_or bs 2 0) 114 in
    let k = only_if-found (signs && is_between 48 51 (get_or bs 3 0)) (4 * (get_or bs 0 0 - 48) + (get_or bs 3 0 - 48)) at e in
    let a = both_left signs _ k.0 in
    let b = both_left front _ (both_left (front && eqb (get_or bs 1 0) 46) _ a) in
    let thread = leb-true (get_or bs 0 0) 52 (both_right (leb 48 (get_or bs 0 0)) _ (both_right (eqb (length bs) 4) _ b)) in
    let register = leb-true (get_or bs 3 0) 51 (both_right (leb 48 (get_or bs 3 0)) _ (both_right signs _ k.0)) in
    omega (arith, k.1)

symbol-few : (p : ℕ → Bool) (bs : List ℕ) (b : ℕ) → only p (symbol_in bs) ≡ found b → b < 256
symbol-few p bs b e = omega (arith, place-below 1 bs symbols b (only-found p (symbol_in bs) b e).1)

module _ (lines : ℕ) where
  number-bytes : (at sign : ℕ) (bs : List ℕ) → at < 20 → sign < 256 → OfBytes (Text.number_behind lines at sign bs)
  number-bytes at sign bs h l = by (number_in (token (content lines bs)))
    where
      by : (f : Found) → OfBytes (elim f [ nothing ↦ Text.broken (comparison_of 1 at 0) (content lines bs) | found n ↦ Text.unit (comparison_of sign at n) (past_token (content lines bs)) ])
      by nothing = tt
      by (found n) = (l, (omega arith, (omega arith, little-bytes 8 n)))

  sign-bytes : (at : ℕ) (bs : List ℕ) → at < 20 → OfBytes (Text.sign_behind lines at bs)
  sign-bytes at bs h = by (only is_sign (symbol_in (token (content lines bs)))) refl
    where
      by : (f : Found) → only is_sign (symbol_in (token (content lines bs))) ≡ f →
          OfBytes (elim f [ nothing ↦ Text.broken (comparison_of 1 at 0) (content lines bs) | found sign ↦ Text.number_behind lines at sign (past_token (content lines bs)) ])
      by nothing e = tt
      by (found sign) e = number-bytes at sign (past_token (content lines bs)) h (symbol-few is_sign (token (content lines bs)) sign e)

  pub unit-bytes : (bs : List ℕ) → OfBytes (unit_at lines bs)
  unfolding unit_at
  unit-bytes bs = by (thread_register_in (token bs)) refl
    where
      bracket : (f : Found) → only (λ (b : ℕ). not (is_sign b)) (symbol_in (token bs)) ≡ f → OfBytes (elim f [ nothing ↦ Text.none | found b ↦ Text.unit (b ∷ []) (past_token bs) ])
      bracket nothing e = tt
      bracket (found b) e = (symbol-few (λ (x : ℕ). not (is_sign x)) (token bs) b e, tt)

      by : (f : Found) → thread_register_in (token bs) ≡ f →
          OfBytes (elim f [
            | found at ↦ Text.sign_behind lines at (past_token bs)
            | nothing ↦ elim (only (λ (b : ℕ). not (is_sign b)) (symbol_in (token bs))) [ nothing ↦ Text.none | found b ↦ Text.unit (b ∷ []) (past_token bs) ]
          ])
      by (found at) e = sign-bytes at (past_token bs) (register-few (token bs) at e)
      by nothing e = bracket (only (λ (b : ℕ). not (is_sign b)) (symbol_in (token bs))) refl
