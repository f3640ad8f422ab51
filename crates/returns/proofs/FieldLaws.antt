-- The fields of a row: what may stand for each letter, as it is written and as it is read. Assumes nothing.
--     letter-cases              the letters that stand for a field
--     in_range                   what a letter's field may be
--     letter-back, letter-word  so it is read back as it was written
--     letter-known              and what is read is in range
use Prim.Native.Nat.{ℕ, ◌^◌, ◌≤◌, ◌<◌}
use mathlib.Core.List.{List, ◌∷◌}
use mathlib.Core.Bool.{Bool, true, false, cond, not, ◌&&◌, ◌||◌, true≢false}
use mathlib.Core.Path.{◌≡◌, refl, ap, sym, ◌∙◌}
use native.Mathlib.Omega.{arith}
use lib.Dec.{ltb, leb, eqb}
use lib.ListN.{get_or}
use borrow.Author.Tests.{eqb-true, ltb-true, leb-true, lt-ltb, le-leb}
use Rattle.rules.specs.Table.{Room, is_register, any_order, is_load_order, is_store_order, is_fence_order}
use Rattle.rules.specs.Token.{found, found_if, only, number_in, plain_in}
use Rattle.rules.specs.Form.{order_in, field_of, letter_in}
use Rattle.rules.specs.Writer.{shown, order_shown, letter_shown}
use Rattle.rules.proofs.MeasureRows.{both_left}
use Rattle.returns.proofs.TokenLaws.{is_word}
use Rattle.returns.proofs.NumberLaws.{number-back, shown-word, register-back, register-word, plain_back, plain_word, order-back, only-found, number-below, register-below, plain-below, order_below}

abbrev pub is_letter_of : ℕ → Bool
is_letter_of b = ltb (field_of b) 9

test : {A : Type 0} (x : Bool) → (x ≡ true → A) → (x ≡ false → A) → A
test true f g = f refl
test false f g = g refl

-- R, C, P, T, J, G, A, B, L, S, O, F, X
pub letter-cases : (P : ℕ → Type 0) (b : ℕ) → is_letter_of b ≡ true → P 82 → P 67 → P 80 → P 84 → P 74 → P 71 → P 65 → P 66 → P 76 → P 83 → P 79 → P 70 → P 88 → P b
unfolding field_of
letter-cases P b h pr pc pp pt pj pg pa pb pl ps po pf px =
    test (eqb b 82) (λ e. rw (eqb-true b 82 e) pr)
    (λ e0. test (eqb b 67) (λ e. rw (eqb-true b 67 e) pc)
    (λ e1. test (eqb b 80) (λ e. rw (eqb-true b 80 e) pp)
    (λ e2. test (eqb b 84) (λ e. rw (eqb-true b 84 e) pt)
    (λ e3. test (eqb b 74) (λ e. rw (eqb-true b 74 e) pj)
    (λ e4. test (eqb b 71) (λ e. rw (eqb-true b 71 e) pg)
    (λ e5. test (eqb b 65) (λ e. rw (eqb-true b 65 e) pa)
    (λ e6. test (eqb b 66) (λ e. rw (eqb-true b 66 e) pb)
    (λ e7. test (eqb b 76) (λ e. rw (eqb-true b 76 e) pl)
    (λ e8. test (eqb b 83) (λ e. rw (eqb-true b 83 e) ps)
    (λ e9. test (eqb b 79) (λ e. rw (eqb-true b 79 e) po)
    (λ e10. test (eqb b 70) (λ e. rw (eqb-true b 70 e) pf)
    (λ e11. test (eqb b 88) (λ e. rw (eqb-true b 88 e) px)
    (λ e12. absurd (true≢false (sym h ∙ rw (e0, e1, e2, e3, e4, e5, e6, e7, e8, e9, e10, e11, e12) refl)))))))))))))))

-- What a letter's field may be. Every number below 2^64 may be an operand
unfoldable pub in_range : Room → ℕ → ℕ → Bool
in_range room b v =
    cond (eqb b 82) (is_register v)
    (cond (eqb b 67) (ltb v room.cells)
    (cond (eqb b 80) (ltb v room.plains)
    (cond (eqb b 84) (ltb v room.threads)
    (cond (eqb b 74) (leb v room.rows)
    (cond (eqb b 71) (leb v room.rows && not (eqb v room.row))
    (cond (eqb b 65 || eqb b 66) true
    (cond (eqb b 76 || eqb b 88) (is_load_order v)
    (cond (eqb b 83) (is_store_order v)
    (cond (eqb b 70) (is_fence_order v)
    (any_order v))))))))))

pub any_below : (o : ℕ) → any_order o ≡ true → o < 5
any_below o e = omega (arith, leb-true o 4 e)

pub load-any : (o : ℕ) → is_load_order o ≡ true → any_order o ≡ true
load-any o e = both_left (any_order o) _ (both_left (any_order o && not (eqb o 1)) _ e)

pub store-any : (o : ℕ) → is_store_order o ≡ true → any_order o ≡ true
store-any o e = both_left (any_order o) _ (both_left (any_order o && not (eqb o 2)) _ e)

pub fence-any : (o : ℕ) → is_fence_order o ≡ true → any_order o ≡ true
fence-any o e = both_left (any_order o) _ e

-- As it is written, and read back

number-only : (p : ℕ → Bool) (v : ℕ) → p v ≡ true → v < 2 ^ 64 → only p (number_in (shown v)) ≡ found v
number-only p v e h = ap (only p) (number-back v h) ∙ ap (λ (x : Bool). found_if x v) e

plain-only : (p : ℕ → Bool) (v : ℕ) → p v ≡ true → v < 4 → only p (plain_in (112 ∷ shown v)) ≡ found v
plain-only p v e h = ap (only p) (plain_back v h) ∙ ap (λ (x : Bool). found_if x v) e

order-only : (p : ℕ → Bool) (o : ℕ) → p o ≡ true → any_order o ≡ true → only p (order_in (order_shown o)) ≡ found o
order-only p o e h = ap (only p) (order-back o (any_below o h)).0 ∙ ap (λ (x : Bool). found_if x o) e

module _ (room : Room) (fields : List ℕ) where
  abbrev Back : ℕ → Type 0
  Back b = in_range room b (get_or fields (field_of b) 0) ≡ true → get_or fields (field_of b) 0 < 2 ^ 64 →
      letter_in room b (letter_shown b fields) ≡ found (get_or fields (field_of b) 0)

  -- no more plain cells than have a name
  pub letter-back : room.plains ≤ 4 → (b : ℕ) → is_letter_of b ≡ true → Back b
  unfolding letter_in letter_shown field_of in_range
  letter-back few b h =
      letter-cases Back b h
      (λ e l. register-back (get_or fields 5 0) (ltb-true (get_or fields 5 0) 4 e))
      (λ e l. number-only (λ (v : ℕ). ltb v room.cells) (get_or fields 1 0) e l)
      (λ e l. plain-only (λ (v : ℕ). ltb v room.plains) (get_or fields 1 0) e (omega (arith, ltb-true (get_or fields 1 0) room.plains e)))
      (λ e l. number-only (λ (v : ℕ). ltb v room.threads) (get_or fields 1 0) e l)
      (λ e l. number-only (λ (v : ℕ). leb v room.rows) (get_or fields 6 0) e l)
      (λ e l. number-only (λ (v : ℕ). leb v room.rows && not (eqb v room.row)) (get_or fields 6 0) e l)
      (λ e l. number-back (get_or fields 7 0) l)
      (λ e l. number-back (get_or fields 8 0) l)
      (λ e l. order-only is_load_order (get_or fields 2 0) e (load-any (get_or fields 2 0) e))
      (λ e l. order-only is_store_order (get_or fields 2 0) e (store-any (get_or fields 2 0) e))
      (λ e l. (order-back (get_or fields 2 0) (any_below (get_or fields 2 0) e)).0)
      (λ e l. order-only is_fence_order (get_or fields 2 0) e (fence-any (get_or fields 2 0) e))
      (λ e l. order-only is_load_order (get_or fields 3 0) e (load-any (get_or fields 3 0) e))

  abbrev Worded : ℕ → Type 0
  Worded b = in_range room b (get_or fields (field_of b) 0) ≡ true → is_word (letter_shown b fields) ≡ true

  pub letter-word : (b : ℕ) → is_letter_of b ≡ true → Worded b
  unfolding letter_shown field_of in_range
  letter-word b h =
      letter-cases Worded b h
      (λ e. register-word (get_or fields 5 0)) (λ e. shown-word (get_or fields 1 0)) (λ e. plain_word (get_or fields 1 0)) (λ e. shown-word (get_or fields 1 0)) (λ e. shown-word (get_or fields 6 0)) (λ e. shown-word (get_or fields 6 0))
      (λ e. shown-word (get_or fields 7 0)) (λ e. shown-word (get_or fields 8 0))
      (λ e. (order-back (get_or fields 2 0) (any_below (get_or fields 2 0) (load-any (get_or fields 2 0) e))).1)
      (λ e. (order-back (get_or fields 2 0) (any_below (get_or fields 2 0) (store-any (get_or fields 2 0) e))).1)
      (λ e. (order-back (get_or fields 2 0) (any_below (get_or fields 2 0) e)).1)
      (λ e. (order-back (get_or fields 2 0) (any_below (get_or fields 2 0) (fence-any (get_or fields 2 0) e))).1)
      (λ e. (order-back (get_or fields 3 0) (any_below (get_or fields 3 0) (load-any (get_or fields 3 0) e))).1)

-- What is read for a letter is in range

load-few : (v : ℕ) → v < 5 → any_order v ≡ true
load-few v h = le-leb v 4 (omega arith)

module _ (room : Room) (word : List ℕ) (v : ℕ) where
  abbrev Known : ℕ → Type 0
  Known b = letter_in room b word ≡ found v → (in_range room b v ≡ true) × (v < 2 ^ 64)

  number-known : (p : ℕ → Bool) → only p (number_in word) ≡ found v → (p v ≡ true) × (v < 2 ^ 64)
  number-known p e = let k = only-found p (number_in word) v e in (k.0, number-below word v k.1)

  order-known : (p : ℕ → Bool) → only p (order_in word) ≡ found v → (p v ≡ true) × (v < 2 ^ 64)
  order-known p e = let k = only-found p (order_in word) v e in (k.0, (omega (arith, order_below word v k.1)))

  plain_known : (p : ℕ → Bool) → only p (plain_in word) ≡ found v → (p v ≡ true) × (v < 2 ^ 64)
  plain_known p e = let k = only-found p (plain_in word) v e in (k.0, (omega (arith, plain-below word v k.1)))

  pub letter-known : (b : ℕ) → is_letter_of b ≡ true → Known b
  unfolding letter_in field_of in_range
  letter-known b h =
      letter-cases Known b h
      (λ e. let k = register-below word v e in (lt-ltb v 4 k, (omega arith)))
      (λ e. number-known (λ (x : ℕ). ltb x room.cells) e)
      (λ e. plain_known (λ (x : ℕ). ltb x room.plains) e)
      (λ e. number-known (λ (x : ℕ). ltb x room.threads) e)
      (λ e. number-known (λ (x : ℕ). leb x room.rows) e)
      (λ e. number-known (λ (x : ℕ). leb x room.rows && not (eqb x room.row)) e)
      (λ e. (refl, number-below word v e))
      (λ e. (refl, number-below word v e))
      (λ e. order-known is_load_order e)
      (λ e. order-known is_store_order e)
      (λ e. let k = order_below word v e in (load-few v k, (omega arith)))
      (λ e. order-known is_fence_order e)
      (λ e. order-known is_load_order e)
