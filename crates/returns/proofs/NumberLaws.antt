-- Numbers as they are written are read back. Assumes nothing.
--     shown-letters, shown-word     they are words
--     number-back                   a number below 2^64
--     register-back, plain_back, order-back     a register, a plain cell, an order
--     number-below, register-below, plain-below, order_below     what is read is in range
use Prim.Native.Nat.{ℕ, zero, suc, ◌+◌, ◌-◌, ◌*◌, ◌/◌, ◌%◌, ◌^◌, ◌≤◌, ◌<◌}
use mathlib.Core.List.{List, [], ◌∷◌}
use mathlib.Core.Bool.{Bool, true, false, cond, not, ◌&&◌, ◌||◌}
use mathlib.Core.Path.{◌≡◌, refl, ap, sym, subst, ◌∙◌}
use native.Mathlib.Omega.{arith}
use lib.Dec.{ltb, leb, eqb, eqb-suc-zero}
use lib.ListN.{length, get_or}
use borrow.Author.Tests.{le-leb, lt-ltb, ltb-true, ltb-false, leb-true, eq-eqb, ne_eqb}
use Rattle.rules.specs.Token.{bytes_of, place_in, is_between, is_digit, is_letter, is_empty, Found, nothing, found, found_if, only, number_in, digits_behind, fourth, register_in, plain_in}
use Rattle.rules.specs.Vector.{equal}
use Rattle.rules.specs.Form as Form
use Rattle.rules.specs.Form.{order_in}
use Rattle.rules.specs.Writer.{digits_of, shown, order_shown}
use Rattle.rules.proofs.MeasureRows.{both_right}
use Rattle.returns.proofs.TokenLaws.{all, all_so, also, is_word}

-- Digits

digit-is : (d : ℕ) → d < 10 → is_digit (48 + d) ≡ true
digit-is d h = also (le-leb 48 (48 + d) (omega arith)) (le-leb (48 + d) 57 (omega arith))

pub digit-letter : (b : ℕ) → is_digit b ≡ true → is_letter b ≡ true
digit-letter b e = rw e refl

digits_are : (n v : ℕ) (behind : List ℕ) → all is_digit behind ≡ true → all is_digit (digits_of n v behind) ≡ true
unfolding digits_of
digits_are zero v behind h = h
digits_are (suc n) v behind h = by (λ w more k. digits_are n w more k) (ltb v 10) refl
  where
    by : ((w : ℕ) (more : List ℕ) → all is_digit more ≡ true → all is_digit (digits_of n w more) ≡ true) → (x : Bool) → ltb v 10 ≡ x →
        all is_digit (elim x [ true ↦ (48 + v) ∷ behind | false ↦ digits_of n (v / 10) ((48 + v % 10) ∷ behind) ]) ≡ true
    by more true e = also (digit-is v (ltb-true v 10 e)) h
    by more false e = more (v / 10) ((48 + v % 10) ∷ behind) (also (digit-is (v % 10) (omega arith)) h)

-- the first digit of a number that is not 0
digits-begin : (n v : ℕ) (behind : List ℕ) → 1 ≤ v → v < 10 ^ n → (c : ℕ) × (cs : List ℕ) × (digits_of n v behind ≡ c ∷ cs) × (48 < c)
unfolding digits_of
digits-begin zero v behind l h = absurd (omega arith)
digits-begin (suc n) v behind l h = by (λ w more k m. digits-begin n w more k m) (ltb v 10) refl
  where
    by : ((w : ℕ) (more : List ℕ) → 1 ≤ w → w < 10 ^ n → (c : ℕ) × (cs : List ℕ) × (digits_of n w more ≡ c ∷ cs) × (48 < c)) → (x : Bool) → ltb v 10 ≡ x →
        (c : ℕ) × (cs : List ℕ) × (elim x [ true ↦ (48 + v) ∷ behind | false ↦ digits_of n (v / 10) ((48 + v % 10) ∷ behind) ] ≡ c ∷ cs) × (48 < c)
    by more true e = (48 + v, behind, refl, omega arith)
    by more false e = let g = ltb-false v 10 e in more (v / 10) ((48 + v % 10) ∷ behind) (omega arith) (omega arith)

-- one digit more
digit-next : (v b w : ℕ) (bs : List ℕ) → is_digit b ≡ true → 10 * v + (b - 48) ≡ w → w < 2 ^ 64 → digits_behind v (b ∷ bs) ≡ digits_behind w bs
unfolding digits_behind
digit-next v b w bs h e l =
    let t : (is_digit b && ltb (10 * v + (b - 48)) (2 ^ 64)) ≡ true = also h (rw e (lt-ltb w (2 ^ 64) l)) in
    rw (digits_behind, t) (ap (λ (x : ℕ). digits_behind x bs) e)

digit-on : (v d : ℕ) (bs : List ℕ) → d < 10 → 10 * v + d < 2 ^ 64 → digits_behind v ((48 + d) ∷ bs) ≡ digits_behind (10 * v + d) bs
digit-on v d bs h l = digit-next v (48 + d) (10 * v + d) bs (digit-is d h) (omega arith) l

digits-back : (n v : ℕ) (behind : List ℕ) → v < 10 ^ n → v < 2 ^ 64 → digits_behind 0 (digits_of n v behind) ≡ digits_behind v behind
unfolding digits_of
digits-back zero v behind h l = let e : v ≡ 0 = omega arith in rw e refl
digits-back (suc n) v behind h l = by (λ w more k m. digits-back n w more k m) (ltb v 10) refl
  where
    by : ((w : ℕ) (more : List ℕ) → w < 10 ^ n → w < 2 ^ 64 → digits_behind 0 (digits_of n w more) ≡ digits_behind w more) → (x : Bool) → ltb v 10 ≡ x →
        digits_behind 0 (elim x [ true ↦ (48 + v) ∷ behind | false ↦ digits_of n (v / 10) ((48 + v % 10) ∷ behind) ]) ≡ digits_behind v behind
    by more true e =
        let f : 10 * 0 + v ≡ v = omega arith in
        digit-on 0 v behind (ltb-true v 10 e) (omega arith) ∙ ap (λ (w : ℕ). digits_behind w behind) f
    by more false e =
        let f : 10 * (v / 10) + v % 10 ≡ v = omega arith in
        let g = ltb-false v 10 e in
        more (v / 10) ((48 + v % 10) ∷ behind) (omega arith) (omega arith)
        ∙ digit-on (v / 10) (v % 10) behind (omega arith) (omega arith) ∙ ap (λ (w : ℕ). digits_behind w behind) f

-- A number

pub shown-letters : (v : ℕ) → all is_letter (shown v) ≡ true
shown-letters v = all_so is_digit is_letter digit-letter (shown v) (digits_are 20 v [] refl)

number-begun : (c : ℕ) (cs : List ℕ) → 48 < c → number_in (c ∷ cs) ≡ digits_behind 0 (c ∷ cs)
unfolding number_in
number-begun c cs h = rw (eqb-suc-zero (length cs), ne_eqb c 48 (λ e. omega arith)) refl

pub number-back : (v : ℕ) → v < 2 ^ 64 → number_in (shown v) ≡ found v
unfolding number_in digits_of digits_behind
number-back zero h = refl
number-back (suc v) h =
    let k = digits-begin 20 (suc v) [] (omega arith) (omega arith) in
    ap number_in k.2 ∙ number-begun k.0 k.1 k.3 ∙ ap (digits_behind 0) (sym k.2) ∙ digits-back 20 (suc v) [] (omega arith) h

digits_more : (n v : ℕ) (behind : List ℕ) → length behind ≤ length (digits_of n v behind)
unfolding digits_of
digits_more zero v behind = omega arith
digits_more (suc n) v behind = by (λ w more. digits_more n w more) (ltb v 10)
  where
    by : ((w : ℕ) (more : List ℕ) → length more ≤ length (digits_of n w more)) → (x : Bool) →
        length behind ≤ length {A = ℕ} (elim x [ true ↦ (48 + v) ∷ behind | false ↦ digits_of n (v / 10) ((48 + v % 10) ∷ behind) ])
    by more true = omega arith
    by more false = omega (arith, more (v / 10) ((48 + v % 10) ∷ behind))

letters-word : (w : List ℕ) → 1 ≤ length w → all is_letter w ≡ true → is_word w ≡ true
unfolding is_word
letters-word [] l h = absurd (omega arith)
letters-word (b ∷ w) l h = rw h refl

pub shown-some : (v : ℕ) → 1 ≤ length (shown v)
unfolding digits_of
shown-some v = by (ltb v 10)
  where
    by : (x : Bool) → 1 ≤ length {A = ℕ} (elim x [ true ↦ (48 + v) ∷ [] | false ↦ digits_of 19 (v / 10) ((48 + v % 10) ∷ []) ])
    by true = omega arith
    by false = digits_more 19 (v / 10) ((48 + v % 10) ∷ [])

pub shown-word : (v : ℕ) → is_word (shown v) ≡ true
shown-word v = letters-word (shown v) (shown-some v) (shown-letters v)

-- A register, a plain cell and an order

fourth-back : (letter v : ℕ) → v < 4 → fourth letter (letter ∷ shown v) ≡ found v
unfolding digits_of
fourth-back letter zero h = rw (eq-eqb letter letter refl) refl
fourth-back letter (suc zero) h = rw (eq-eqb letter letter refl) refl
fourth-back letter (suc (suc zero)) h = rw (eq-eqb letter letter refl) refl
fourth-back letter (suc (suc (suc zero))) h = rw (eq-eqb letter letter refl) refl
fourth-back letter (suc (suc (suc (suc v)))) h = absurd (omega arith)

pub register-back : (v : ℕ) → v < 4 → register_in (114 ∷ shown v) ≡ found v
unfolding register_in
register-back v h = fourth-back 114 v h

pub plain_back : (v : ℕ) → v < 4 → plain_in (112 ∷ shown v) ≡ found v
unfolding plain_in
plain_back v h = fourth-back 112 v h

pub register-word : (v : ℕ) → is_word (114 ∷ shown v) ≡ true
register-word v = letters-word (114 ∷ shown v) (omega arith) (shown-letters v)

pub plain_word : (v : ℕ) → is_word (112 ∷ shown v) ≡ true
plain_word v = letters-word (112 ∷ shown v) (omega arith) (shown-letters v)

-- a register is no number
pub register-none : (bs : List ℕ) → number_in (114 ∷ bs) ≡ nothing
unfolding number_in digits_behind
register-none bs = rw (eqb-suc-zero (length bs)) refl

pub order-back : (o : ℕ) → o < 5 → (order_in (order_shown o) ≡ found o) × (is_word (order_shown o) ≡ true)
unfolding bytes_of place_in equal is_word
order-back zero h = (refl, refl)
order-back (suc zero) h = (refl, refl)
order-back (suc (suc zero)) h = (refl, refl)
order-back (suc (suc (suc zero))) h = (refl, refl)
order-back (suc (suc (suc (suc zero)))) h = (refl, refl)
order-back (suc (suc (suc (suc (suc o))))) h = absurd (omega arith)

-- What is read is below 2^64

none_found : {A : Type 0} (v : ℕ) → nothing ≡ found v → A
none_found v e = let z : ◌≡◌ {A = ℕ} 0 1 = cc in absurd (omega arith)

pub only-found : (p : ℕ → Bool) (f : Found) (v : ℕ) → only p f ≡ found v → (p v ≡ true) × (f ≡ found v)
only-found p nothing v e = none_found v e
only-found p (found w) v e = by (p w) refl e
  where
    by : (x : Bool) → p w ≡ x → found_if x w ≡ found v → (p v ≡ true) × (found w ≡ found v)
    by false g h = none_found v h
    by true g h = let k : w ≡ v = cc in (subst (λ (y : ℕ). p y ≡ true) k g, h)

pub only_if-found : (x : Bool) (w v : ℕ) → found_if x w ≡ found v → (x ≡ true) × (w ≡ v)
only_if-found true w v e = (refl, cc)
only_if-found false w v e = none_found v e

digits-below : (bs : List ℕ) (a v : ℕ) → a < 2 ^ 64 → digits_behind a bs ≡ found v → v < 2 ^ 64
unfolding digits_behind
digits-below [] a v h e = let k : a ≡ v = cc in omega arith
digits-below (b ∷ bs) a v h e = by (is_digit b && ltb (10 * a + (b - 48)) (2 ^ 64)) refl e (λ w l f. digits-below bs w v l f)
  where
    by : (x : Bool) → (is_digit b && ltb (10 * a + (b - 48)) (2 ^ 64)) ≡ x → elim x [ true ↦ digits_behind (10 * a + (b - 48)) bs | false ↦ nothing ] ≡ found v →
        ((w : ℕ) → w < 2 ^ 64 → digits_behind w bs ≡ found v → v < 2 ^ 64) → v < 2 ^ 64
    by true f g more = more (10 * a + (b - 48)) (ltb-true (10 * a + (b - 48)) (2 ^ 64) (both_right (is_digit b) _ f)) g
    by false f g more = none_found v g

pub number-below : (bs : List ℕ) (v : ℕ) → number_in bs ≡ found v → v < 2 ^ 64
unfolding number_in
number-below bs v e = by (is_empty bs || (eqb (get_or bs 0 0) 48 && not (eqb (length bs) 1))) e
  where
    by : (x : Bool) → cond x nothing (digits_behind 0 bs) ≡ found v → v < 2 ^ 64
    by true g = none_found v g
    by false g = digits-below bs 0 v (omega arith) g

fourth-below : (letter : ℕ) (bs : List ℕ) (v : ℕ) → fourth letter bs ≡ found v → v < 4
fourth-below letter bs v e =
    let k = only_if-found (eqb (length bs) 2 && eqb (get_or bs 0 0) letter && is_between 48 51 (get_or bs 1 0)) (get_or bs 1 0 - 48) v e in
    let h = both_right (eqb (length bs) 2 && eqb (get_or bs 0 0) letter) _ k.0 in
    omega (arith, k.1, leb-true (get_or bs 1 0) 51 (both_right (leb 48 (get_or bs 1 0)) _ h))

pub register-below : (bs : List ℕ) (v : ℕ) → register_in bs ≡ found v → v < 4
unfolding register_in
register-below bs v e = fourth-below 114 bs v e

pub plain-below : (bs : List ℕ) (v : ℕ) → plain_in bs ≡ found v → v < 4
unfolding plain_in
plain-below bs v e = fourth-below 112 bs v e

pub place-below : (i : ℕ) (word : List ℕ) (ws : List (List ℕ)) (v : ℕ) → place_in i word ws ≡ found v → v < i + length ws
unfolding place_in
place-below i word [] v e = none_found v e
place-below i word (w ∷ ws) v e = by (equal word w) e (λ f. place-below (i + 1) word ws v f)
  where
    by : (x : Bool) → elim x [ true ↦ found i | false ↦ place_in (i + 1) word ws ] ≡ found v → (place_in (i + 1) word ws ≡ found v → v < i + 1 + length ws) → v < i + suc (length ws)
    by true f more = let k : i ≡ v = cc in omega arith
    by false f more = omega (arith, more f)

pub order_below : (bs : List ℕ) (v : ℕ) → order_in bs ≡ found v → v < 5
order_below bs v e = place-below 0 bs Form.orders v e
