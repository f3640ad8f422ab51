-- What words stand for. Assumes nothing.
--     number-..            a leading zero; any other word is a number where decimal finds one
--     only-.., digit-most  what is found only where a test holds
--     thread-register-..   those of a thread's register
--     owned-..             the register that is found, and that it is one
use Prim.Native.Nat.{ℕ, ◌+◌, ◌-◌, ◌*◌, ◌^◌, ◌≤◌, ◌<◌}
use mathlib.Core.List.{List, [], ◌∷◌}
use mathlib.Core.Bool.{Bool, true, false, cond, ◌&&◌, and-eq-true_iff}
use mathlib.Core.Path.{◌≡◌, refl, ap, ◌∙◌}
use native.Mathlib.Omega.{arith}
use native.Mathlib.Decide.{dec_lt}
use borrow.Author.Tests.{eq-eqb, ne_eqb, leb-true}
use lib.Dec.{ltb, leb, eqb}
use lib.ListN.{length, get_or}
use Rattle.rules.specs.Token.{nothing, found, found_if, is_between, is_digit, digits_behind, number_in}
use Rattle.rules.specs.Text.{thread_register_in}
use Rattle.token.specs.Finds.{FindsOwned, found_of}
use Rattle.token.specs.declared.Owned.{Owned}
use Rattle.std.proofs.Common.{Some, None}
use Rattle.decimal.specs.Decimal.{number_spelled, with_digits, with_digit, extended}

-- Numbers

behind-bad : (bs : List ℕ) → with_digits None bs ≡ None
unfolding with_digits
behind-bad [] = refl
behind-bad (b ∷ bs) = refl

digits-behind : (v : ℕ) (bs : List ℕ) → found_of (with_digits (Some v) bs) ≡ digits_behind v bs
unfolding with_digits digits_behind with_digit
digits-behind v [] = refl
digits-behind v (b ∷ bs) =
    elim (is_digit b && ltb (extended v b) (2 ^ 64))
    as (λ t. found_of (with_digits (cond t (Some (extended v b)) None) bs) ≡ elim t [ true ↦ digits_behind (extended v b) bs | false ↦ nothing ]) [
      | true ↦ digits-behind (extended v b) bs
      | false ↦ ap found_of (behind-bad bs)
    ]

module _ (word : List ℕ) where
  pub number-zero : 1 < length word → get_or word 0 0 ≡ 48 → nothing ≡ number_in word
  unfolding number_in
  number-zero h e =
      let many = ne_eqb (length word) 1 (λ (z : length word ≡ 1). omega arith) in
      let some = ne_eqb (length word) 0 (λ (z : length word ≡ 0). omega arith) in
      simp (some, many, eq-eqb _ _ e)

number-first : (word : List ℕ) → 1 < length word → (get_or word 0 0 ≡ 48 → ⊥) → found_of (number_spelled word) ≡ number_in word
unfolding number_in number_spelled
number-first [] h n = absurd (omega arith)
number-first (b ∷ bs) h n =
    let some = ne_eqb (length (b ∷ bs)) 0 (λ (z : length (b ∷ bs) ≡ 0). omega arith) in
    rw (some, ne_eqb b 48 n) (digits-behind 0 (b ∷ bs))

number_short : (word : List ℕ) → length word ≤ 1 → found_of (number_spelled word) ≡ number_in word
unfolding number_in number_spelled
number_short [] h = refl
number_short (b ∷ []) h =
    digits-behind 0 (b ∷ [])
    ∙ (elim (eqb b 48) as (λ t. digits_behind 0 (b ∷ []) ≡ cond (t && false) nothing (digits_behind 0 (b ∷ []))) [ true ↦ refl | false ↦ refl ])
number_short (b ∷ c ∷ bs) h = absurd (omega arith)

pub number-any : (word : List ℕ) → (1 < length word → get_or word 0 0 ≡ 48 → ⊥) → found_of (number_spelled word) ≡ number_in word
number-any word n =
    elim (dec_lt 1 (length word)) [ yes h ↦ number-first word h (n h) | no h ↦ number_short word (omega arith) ]

-- Registers

pub only-not : (t : Bool) (v : ℕ) → found_if t v ≡ nothing → t ≡ false
only-not true v e = cc
only-not false v e = refl

pub only-is : (t : Bool) (v w : ℕ) → found_if t v ≡ found w → t ≡ true
only-is true v w e = refl
only-is false v w e = cc

pub only-value : (t : Bool) (v w : ℕ) → found_if t v ≡ found w → v ≡ w
only-value true v w e = cc
only-value false v w e = cc

pub digit-most : (last b v : ℕ) → found_if (is_between 48 last b) (b - 48) ≡ found v → v ≤ last - 48
digit-most last b v e =
    let t : is_between 48 last b ≡ true = only-is (is_between 48 last b) _ _ e in
    let w : b - 48 ≡ v = only-value (is_between 48 last b) _ _ e in
    let most : b ≤ last = leb-true b last ((and-eq-true_iff (leb 48 b) (leb b last)).0 t).1 in
    omega arith

and-false : (t : Bool) → t && false ≡ false
and-false true = refl
and-false false = refl

module _ (word : List ℕ) where
  -- a test that fails
  pub thread-register-long : (length word ≡ 4 → ⊥) → nothing ≡ thread_register_in word
  unfolding thread_register_in
  thread-register-long n = simp (ne_eqb _ _ n)

  pub thread-register-point : (get_or word 1 0 ≡ 46 → ⊥) → nothing ≡ thread_register_in word
  unfolding thread_register_in
  thread-register-point n = simp (ne_eqb _ _ n, and-false)

  pub thread-register-letter : (get_or word 2 0 ≡ 114 → ⊥) → nothing ≡ thread_register_in word
  unfolding thread_register_in
  thread-register-letter n = simp (ne_eqb _ _ n, and-false)

  pub thread-register-thread : is_between 48 52 (get_or word 0 0) ≡ false → nothing ≡ thread_register_in word
  unfolding thread_register_in
  thread-register-thread e = rw (e) (simp and-false)

  pub thread-register-register : is_between 48 51 (get_or word 3 0) ≡ false → nothing ≡ thread_register_in word
  unfolding thread_register_in
  thread-register-register e = rw e (simp and-false)

  pub thread-register-all : (t r : ℕ) → length word ≡ 4 → get_or word 1 0 ≡ 46 → get_or word 2 0 ≡ 114
      → found_if (is_between 48 52 (get_or word 0 0)) (get_or word 0 0 - 48) ≡ found t
      → found_if (is_between 48 51 (get_or word 3 0)) (get_or word 3 0 - 48) ≡ found r
      → found (4 * t + r) ≡ thread_register_in word
  unfolding thread_register_in
  thread-register-all t r h p l e f =
      let a : is_between 48 52 (get_or word 0 0) ≡ true = only-is (is_between 48 52 (get_or word 0 0)) _ _ e in
      let b : is_between 48 51 (get_or word 3 0) ≡ true = only-is (is_between 48 51 (get_or word 3 0)) _ _ f in
      let v : get_or word 0 0 - 48 ≡ t = only-value (is_between 48 52 (get_or word 0 0)) _ _ e in
      let w : get_or word 3 0 - 48 ≡ r = only-value (is_between 48 51 (get_or word 3 0)) _ _ f in
      rw (eq-eqb (length word) 4 h, eq-eqb (get_or word 1 0) 46 p, eq-eqb (get_or word 2 0) 114 l, a, b, v, w)

module _ (word named : List ℕ) (same : word ≡ named) where
  pub owned-none : nothing ≡ thread_register_in word → FindsOwned named None
  owned-none e = record { is = e ∙ ap thread_register_in same; within = λ o h. let z : ◌≡◌ {A = ℕ} 0 1 = cc in absurd (omega arith) }

  pub owned-found : (t r : ℕ) → found (4 * t + r) ≡ thread_register_in word → t ≤ 4 → r ≤ 3 → FindsOwned named (Some (record { thread = t; register = r }))
  owned-found t r e h l = record {
    is = e ∙ ap thread_register_in same;
    within = λ o f.
        let s : record { thread = t; register = r } ≡ o = cc in
        (omega (arith, ap (λ (x : Owned). x.thread) s), omega (arith, ap (λ (x : Owned). x.register) s));
  }
