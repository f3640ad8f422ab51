-- What may stand for a piece of a form. Assumes nothing.
--     field-none, kind-.., may-stand-any    a letter's field, kind and values
--     as-..                                 an order as a row has it
--     letter-steps, letter-by               what may stand for a letter, in two steps
--     field-long, field-one                 the field of a piece
--     field-found, field-lost               a field that is found, and none
--     letter-there, value-.., with-..       a piece that is a letter, and one that is a word
use Prim.Native.Nat.{ℕ, ◌≤◌, ◌<◌}
use mathlib.Core.List.{List, [], ◌∷◌}
use mathlib.Core.Bool.{Bool, true, false, true≢false, cond, ◌&&◌, ◌||◌}
use mathlib.Core.Path.{◌≡◌, refl, ap, sym, ◌∙◌}
use native.Mathlib.Omega.{arith}
use native.Mathlib.Decide.{ℕ_discrete, dec_lt}
use borrow.Author.Tests.{eq-eqb, ne_eqb, lt-ltb, le-ltb, eqb-true}
use lib.Dec.{ltb, eqb}
use lib.ListN.{length, get_or, set}
use Rattle.rules.specs.Vector.{equal}
use Rattle.rules.specs.Table.{Room, any_order, is_load_order, is_store_order, is_fence_order}
use Rattle.rules.specs.Token.{Found, nothing, found, found_if, only, number_in, register_in, plain_in}
use Rattle.rules.specs.Form.{order_in, field_of, letter_in, is_field, value_of, with_field}
use Rattle.form.specs.Letters.{found_field, field_in, kind_in, may_stand}
use Rattle.std.specs.Prelude.{Some, None, is_some}
use Rattle.std.specs.Bool.{then_some}
use Rattle.token.specs.Finds.{found_of}

-- Letters

-- a letter's number is none of these
abbrev pub No : ℕ → ℕ → Type 0
No b k = b ≡ k → ⊥

module _ (b : ℕ) where
  pub field-none : No b 82 → No b 67 → No b 84 → No b 80 → No b 74 → No b 71 → No b 65 → No b 66 → No b 76 → No b 83 → No b 79 → No b 70 → No b 88 → 9 ≡ field_of b
  unfolding field_of
  field-none r c t p j g x y l s o f z =
      rw (ne_eqb b 82 r, ne_eqb b 67 c, ne_eqb b 84 t, ne_eqb b 80 p, ne_eqb b 74 j, ne_eqb b 71 g, ne_eqb b 65 x, ne_eqb b 66 y, ne_eqb b 76 l, ne_eqb b 83 s, ne_eqb b 79 o, ne_eqb b 70 f, ne_eqb b 88 z)

  pub kind-register : (word : List ℕ) → b ≡ 82 → register_in word ≡ kind_in b word
  unfolding kind_in
  kind-register word e = rw e

  pub kind-plain : (word : List ℕ) → b ≡ 80 → plain_in word ≡ kind_in b word
  unfolding kind_in
  kind-plain word e = rw e

  pub kind-number : (word : List ℕ) → No b 82 → No b 80 → eqb b 67 || eqb b 84 || eqb b 74 || eqb b 71 || eqb b 65 || eqb b 66 ≡ true → number_in word ≡ kind_in b word
  unfolding kind_in
  kind-number word r p t = rw (ne_eqb b 82 r, ne_eqb b 80 p, t)

  pub kind-order : (word : List ℕ) → No b 82 → No b 80 → eqb b 67 || eqb b 84 || eqb b 74 || eqb b 71 || eqb b 65 || eqb b 66 ≡ false → order_in word ≡ kind_in b word
  unfolding kind_in
  kind-order word r p t = rw (ne_eqb b 82 r, ne_eqb b 80 p, t)

  pub kind-none : (word : List ℕ) → No b 82 → No b 80 → No b 67 → No b 84 → No b 74 → No b 71 → No b 65 → No b 66 → order_in word ≡ kind_in b word
  unfolding kind_in
  kind-none word r p c t j g x y = rw (ne_eqb b 82 r, ne_eqb b 80 p, ne_eqb b 67 c, ne_eqb b 84 t, ne_eqb b 74 j, ne_eqb b 71 g, ne_eqb b 65 x, ne_eqb b 66 y)

  pub may-stand-any : (room : Room) (v : ℕ) → No b 67 → No b 80 → No b 84 → No b 74 → No b 71 → No b 76 → No b 88 → No b 83 → No b 70 → true ≡ may_stand room b v
  unfolding may_stand
  may-stand-any room v c p t j g l z s f = rw (ne_eqb b 67 c, ne_eqb b 80 p, ne_eqb b 84 t, ne_eqb b 74 j, ne_eqb b 71 g, ne_eqb b 76 l, ne_eqb b 88 z, ne_eqb b 83 s, ne_eqb b 70 f)

-- an order as a row has it is one of a load, a store or a fence where its number is
module _ (v : ℕ) where
  pub as_load : is_load_order (cond (any_order v) v 255) ≡ is_load_order v
  as_load = on (any_order v) refl
    where
      on : (t : Bool) → any_order v ≡ t → is_load_order (cond t v 255) ≡ is_load_order v
      on true e = refl
      on false e = rw e

  pub as_store : is_store_order (cond (any_order v) v 255) ≡ is_store_order v
  as_store = on (any_order v) refl
    where
      on : (t : Bool) → any_order v ≡ t → is_store_order (cond t v 255) ≡ is_store_order v
      on true e = refl
      on false e = rw e

  pub as-fence : is_fence_order (cond (any_order v) v 255) ≡ is_fence_order v
  as-fence = on (any_order v) refl
    where
      on : (t : Bool) → any_order v ≡ t → is_fence_order (cond t v 255) ≡ is_fence_order v
      on true e = refl
      on false e = rw e

-- which values may be, where that is known
only-by : (p q : ℕ → Bool) (x : Found) → ((v : ℕ) → p v ≡ q v) → only p x ≡ only q x
only-by p q nothing h = refl
only-by p q (found v) h = rw (h v)

only-any : (p : ℕ → Bool) (x : Found) → ((v : ℕ) → true ≡ p v) → only p x ≡ x
only-any p nothing h = refl
only-any p (found v) h = rw (← h v)

-- one letter, or another
case : {A : Type 0} (b k : ℕ) → (b ≡ k → A) → (No b k → A) → A
case b k f g = elim (ℕ_discrete b k) [ yes e ↦ f e | no n ↦ g n ]

module _ (room : Room) (word : List ℕ) where
  abbrev Steps : ℕ → Type 0
  Steps b = only (may_stand room b) (kind_in b word) ≡ letter_in room b word

  -- at each letter both sides compute
  at-letter : Steps 82 × Steps 67 × Steps 80 × Steps 84 × Steps 74 × Steps 71 × Steps 65 × Steps 66 × Steps 76 × Steps 88 × Steps 83 × Steps 70
  unfolding kind_in may_stand letter_in
  at-letter = (
    only-any _ (register_in word) (λ v. refl),
    only-by _ _ (number_in word) (λ v. refl),
    only-by _ _ (plain_in word) (λ v. refl),
    only-by _ _ (number_in word) (λ v. refl),
    only-by _ _ (number_in word) (λ v. refl),
    only-by _ _ (number_in word) (λ v. refl),
    only-any _ (number_in word) (λ v. refl),
    only-any _ (number_in word) (λ v. refl),
    only-by _ _ (order_in word) (λ v. refl),
    only-by _ _ (order_in word) (λ v. refl),
    only-by _ _ (order_in word) (λ v. refl),
    only-by _ _ (order_in word) (λ v. refl),
  )

  -- none of them
  at_none : (b : ℕ) → No b 82 → No b 67 → No b 80 → No b 84 → No b 74 → No b 71 → No b 65 → No b 66 → No b 76 → No b 88 → No b 83 → No b 70 → Steps b
  unfolding letter_in
  at_none b r c p t j g x y l z s f =
      rw (ne_eqb b 82 r, ne_eqb b 67 c, ne_eqb b 80 p, ne_eqb b 84 t, ne_eqb b 74 j, ne_eqb b 71 g, ne_eqb b 65 x, ne_eqb b 66 y, ne_eqb b 76 l, ne_eqb b 88 z, ne_eqb b 83 s, ne_eqb b 70 f, ← kind-none b word r p c t j g x y)
      (only-any (may_stand room b) (order_in word) (λ v. may-stand-any b room v c p t j g l z s f))

  letter-steps : (b : ℕ) → Steps b
  letter-steps b =
      let is : (k : ℕ) → Steps k → b ≡ k → Steps b = λ k q e. rw e q in
      case b 82 (is 82 at-letter.0) λ r.
      case b 67 (is 67 at-letter.1) λ c.
      case b 80 (is 80 at-letter.2) λ p.
      case b 84 (is 84 at-letter.3) λ t.
      case b 74 (is 74 at-letter.4) λ j.
      case b 71 (is 71 at-letter.5) λ g.
      case b 65 (is 65 at-letter.6) λ x.
      case b 66 (is 66 at-letter.7) λ y.
      case b 76 (is 76 at-letter.8) λ l.
      case b 88 (is 88 at-letter.9) λ z.
      case b 83 (is 83 at-letter.10) λ s.
      case b 70 (is 70 at-letter.11) λ f.
      at_none b r c p t j g x y l z s f

  -- by the kind of word that stands there
  pub letter-by : (b : ℕ) (x : Found) → kind_in b word ≡ x → only (may_stand room b) x ≡ letter_in room b word
  letter-by b x e = ap (only (may_stand room b)) (sym e) ∙ letter-steps b

pub found_then : (t : Bool) (v : ℕ) → found_of (then_some t v) ≡ found_if t v
found_then true v = refl
found_then false v = refl

-- Pieces

module _ (piece : List ℕ) where
  pub field-long : No (length piece) 1 → 9 ≡ field_in piece
  unfolding field_in
  field-long n = rw (ne_eqb (length piece) 1 n)

  pub field-one : length piece ≡ 1 → field_of (get_or piece 0 0) ≡ field_in piece
  unfolding field_in
  field-one e = rw (eq-eqb (length piece) 1 e)

is-field : (piece : List ℕ) → is_field piece ≡ ltb (field_in piece) 9
unfolding field_in
is-field piece =
    elim (eqb (length piece) 1) as (λ t. t && ltb (field_of (get_or piece 0 0)) 9 ≡ ltb (cond t (field_of (get_or piece 0 0)) 9) 9) [ true ↦ refl | false ↦ refl ]

module _ (piece : List ℕ) (h : field_in piece < 9) where
  one-long : eqb (length piece) 1 ≡ true
  unfolding field_in
  one-long =
      (elim (eqb (length piece) 1) as (λ t. cond t (field_of (get_or piece 0 0)) 9 < 9 → t ≡ true) [ true ↦ λ g. refl | false ↦ λ g. absurd (omega arith) ]) h

  pub letter-there : 0 < length piece
  letter-there = omega (arith, eqb-true (length piece) 1 one-long)

  field_is : field_in piece ≡ field_of (get_or piece 0 0)
  unfolding field_in
  field_is = rw one-long

  pub value-letter : (room : Room) (word : List ℕ) → letter_in room (get_or piece 0 0) word ≡ value_of room piece word
  unfolding value_of
  value-letter room word = rw (is-field piece, lt-ltb _ _ h)

  pub with-letter : (fields : List ℕ) (v : ℕ) → set fields (field_in piece) v ≡ with_field fields piece v
  with-letter fields v = rw (is-field piece, lt-ltb _ _ h, field_is)

equal-swap : (xs ys : List ℕ) → equal xs ys ≡ equal ys xs
unfolding equal
equal-swap [] [] = refl
equal-swap [] (y ∷ ys) = refl
equal-swap (x ∷ xs) [] = refl
equal-swap (x ∷ xs) (y ∷ ys) = rw (equal-swap xs ys) (ap (λ (t : Bool). t && equal ys xs) (swap x y))
  where
    swap : (a b : ℕ) → eqb a b ≡ eqb b a
    swap a b = case a b (λ e. eq-eqb a b e ∙ sym (eq-eqb b a (sym e))) (λ n. ne_eqb a b n ∙ sym (ne_eqb b a (λ e. n (sym e))))

-- a field that is found, and none
pub field-some : (n : ℕ) → n < 9 → found_field n ≡ Some n
field-some n h = rw (lt-ltb n 9 h)

field-none-of : (n : ℕ) → 9 ≤ n → found_field n ≡ None
field-none-of n h = rw (le-ltb n 9 h)

pub field-found : (n : ℕ) → is_some (found_field n) ≡ true → n < 9
field-found n t = elim (dec_lt n 9) [ yes h ↦ h | no h ↦ absurd (true≢false (sym t ∙ ap is_some (field-none-of n (omega arith)))) ]

pub field-lost : (n : ℕ) → is_some (found_field n) ≡ false → 9 ≤ n
field-lost n f = elim (dec_lt n 9) [ yes h ↦ absurd (true≢false (sym (ap is_some (field-some n h)) ∙ f)) | no h ↦ omega arith ]

module _ (piece : List ℕ) (h : 9 ≤ field_in piece) where
  pub value-by : (room : Room) (word : List ℕ) → found_if (equal word piece) 0 ≡ value_of room piece word
  unfolding value_of
  value-by room word =
      rw (is-field piece, le-ltb _ _ h, equal-swap piece word)

  pub with-word : (fields : List ℕ) (v : ℕ) → fields ≡ with_field fields piece v
  with-word fields v = rw (is-field piece, le-ltb _ _ h)

pub with_found : (piece fields : List ℕ) (v f : ℕ) → found_field (field_in piece) ≡ Some f → set fields f v ≡ with_field fields piece v
with_found piece fields v f e =
    let h : field_in piece < 9 = field-found (field_in piece) (ap is_some e) in
    let same : field_in piece ≡ f = let s = field-some (field_in piece) h in cc in
    rw (← same) (with-letter piece h fields v)

pub with_none : (piece fields : List ℕ) (v : ℕ) → found_field (field_in piece) ≡ None → fields ≡ with_field fields piece v
with_none piece fields v e = with-word piece (field-lost (field_in piece) (ap is_some e)) fields v
