-- The laws of a load's record. Assumes nothing.
--     left-..          how many values follow a position
--     load-new         the record that a new load is given
--     load-pos, load-len, load-values      the bytes of its record
--     load_moved       its record with another position
--     offers-..        the walk that makes the mask: what is still to be offered from place i on
use Prim.Native.Nat.{ℕ, zero, suc, ◌+◌, ◌*◌, ◌-◌, ◌^◌, ◌%◌, ◌≤◌, ◌<◌}
use mathlib.Core.List.{List, [], ◌∷◌, ◌++◌, append_assoc}
use mathlib.Core.Bool.{Bool, false}
use mathlib.Core.Path.{◌≡◌, refl, ap, sym, ◌∙◌}
use native.Mathlib.Omega.{arith}
use native.Mathlib.Numerals.{add-one}
use borrow.Author.Tests.{lt-ltb, le-ltb}
use lib.Bits.{bit_or}
use lib.Dec.{ltb}
use lib.ListN.{length, get_or, set, take, drop, replicate, length-append, length-replicate, length-take, length-drop, drop_of_length-le, replicate-append-replicate}
use lib.Seq.{paste, get_or-take, get_or-drop, drop-cons, get_or_at, set_at, take_at, take-take, take-append_seam, length-take-le}
use Rattle.rules.specs.Path.{Load, load, encoded, flag}
use Rattle.rules.specs.Machine.{mask_of}
use Rattle.rules.specs.Records.{record_at}
use Rattle.rules.proofs.RecordLaws.{length-record_at, byte_at}
use Rattle.record.specs.Answers.{Left}
use Rattle.record.specs.Choices.{offers, all_slots}
use Rattle.record.specs.Fields.{record_byte, values_at}
use Rattle.std.specs.Prelude.{Some, None}

pub left-of : (p q l m r : ℕ) → p ≡ q → l ≡ m → Left p l r → Left q m r
left-of p q l m r e f h = rw (← e, ← f) h

-- from the first on, of no more than seven
pub left-whole : (n r : ℕ) → n ≤ 7 → Left 0 n r → r ≡ n - 1
left-whole n r k h = let e : ltb 7 n ≡ false = le-ltb 7 n k in h.is ∙ rw e (omega arith)

-- zeros, and more of them
drop-replicate : (k n : ℕ) → drop k (replicate n (zero)) ≡ replicate (n - k) 0
drop-replicate zero n = let e : n ≡ n - 0 = omega arith in ap (λ (m : ℕ). replicate m 0) e
drop-replicate (suc k) zero = let e : 0 ≡ 0 - suc k = omega arith in ap (λ (m : ℕ). replicate m 0) e
drop-replicate (suc k) (suc n) = let e : n - k ≡ suc n - suc k = omega arith in drop-replicate k n ∙ ap (λ (m : ℕ). replicate m 0) e

module _ (seed : List ℕ) (n f : ℕ) (l : length seed ≡ 7) (h : n ≤ 7) where
  zeros : replicate (14 - n) (zero) ≡ replicate (7 - n) 0 ++ (0 ∷ 0 ∷ replicate 5 0)
  zeros =
      let e : 14 - n ≡ 7 - n + 7 = omega arith in
      ap (λ (m : ℕ). replicate m 0) e ∙ sym (replicate-append-replicate (7 - n) 7 (zero))

  long : length (take n seed) ≡ n
  long = length-take-le n seed (omega arith)

  values-new :
      set (take n seed ++ replicate (14 - n) 0) 8 n ≡ take n seed ++ (replicate (7 - n) 0 ++ (0 ∷ n ∷ replicate 5 0))
  values-new =
      let front : List ℕ = (take n seed ++ replicate (7 - n) 0) ++ (0 ∷ []) in
      let w : length front ≡ 8 = simp (length-append, length-replicate) (omega (arith, long)) in
      let whole : (x : List ℕ) → take n seed ++ (replicate (7 - n) 0 ++ (0 ∷ x)) ≡ front ++ x = λ x. simp append_assoc in
      ap (λ (x : List ℕ). set (take n seed ++ x) 8 n) zeros
      ∙ ap (λ (x : List ℕ). set x 8 n) (whole (0 ∷ replicate 5 0))
      ∙ set_at front 0 (replicate 5 0) n 8 w
      ∙ sym (whole (n ∷ replicate 5 0))

  pub load-new : (exploring : Bool) → f ≡ flag exploring → set (paste (2 ∷ f ∷ replicate 14 0) 2 seed n) 10 n ≡ encoded (load (record { exploring = exploring; values = take n seed; pos = 0 }))
  unfolding encoded
  load-new exploring e =
      let two : 2 + n ≡ suc (suc n) = omega arith in
      let z : drop (2 + n) (2 ∷ f ∷ replicate 14 0) ≡ replicate (14 - n) 0 =
      ap (λ (m : ℕ). drop {A = ℕ} m (2 ∷ f ∷ replicate 14 0)) two ∙ drop-replicate n 14 in
      ap (λ (x : List ℕ). 2 ∷ f ∷ set (take n seed ++ x) 8 n) z
      ∙ ap (λ (x : List ℕ). 2 ∷ f ∷ x) values-new
      ∙ ap (λ (m : ℕ). 2 ∷ f ∷ (take n seed ++ (replicate (7 - m) 0 ++ (0 ∷ m ∷ replicate 5 0)))) (sym long)
      ∙ ap (λ (m : ℕ). 2 ∷ m ∷ (take n seed ++ (replicate (7 - length (take n seed)) 0 ++ (0 ∷ length (take n seed) ∷ replicate 5 0)))) e

module _ (l : Load) (h : length l.values ≤ 7) where
  abbrev front : List ℕ
  front = l.values ++ replicate (7 - length l.values) 0

  seven : length front ≡ 7
  seven = simp (length-append, length-replicate) (omega arith)

  split : encoded (load l) ≡ 2 ∷ flag l.exploring ∷ (front ++ (l.pos ∷ length l.values ∷ replicate 5 0))
  unfolding encoded
  split = ap (λ (x : List ℕ). 2 ∷ flag l.exploring ∷ x) (simp append_assoc)

  pub load-pos : get_or (encoded (load l)) 9 0 ≡ l.pos
  load-pos = ap (λ (x : List ℕ). get_or x 9 0) split ∙ get_or_at front l.pos (length l.values ∷ replicate 5 0) 0 7 seven

  pub load-len : get_or (encoded (load l)) 10 0 ≡ length l.values
  load-len =
      let e : front ++ (l.pos ∷ length l.values ∷ replicate 5 0) ≡ (front ++ (l.pos ∷ [])) ++ (length l.values ∷ replicate 5 0) = simp append_assoc in
      let n : length (front ++ (l.pos ∷ [])) ≡ 8 = length-append front (l.pos ∷ []) ∙ (omega (arith, seven)) in
      ap (λ (x : List ℕ). get_or x 10 0) split ∙ ap (λ (x : List ℕ). get_or x 8 0) e ∙ get_or_at (front ++ (l.pos ∷ [])) (length l.values) (replicate 5 0) 0 8 n

  pub load-values : take (length l.values) (take 7 (drop 2 (encoded (load l)))) ≡ l.values
  load-values =
      ap (λ (x : List ℕ). take (length l.values) (take 7 (drop 2 x))) split
      ∙ ap (take (length l.values)) (take_at front (l.pos ∷ length l.values ∷ replicate 5 0) 7 seven)
      ∙ take-append_seam l.values (replicate (7 - length l.values) 0)

  pub load_moved : (p : ℕ) → set (encoded (load l)) 9 p ≡ encoded (load (record { exploring = l.exploring; values = l.values; pos = p }))
  unfolding encoded
  load_moved p =
      ap (λ (x : List ℕ). set x 9 p) split
      ∙ ap (λ (x : List ℕ). 2 ∷ flag l.exploring ∷ x) (set_at front l.pos (length l.values ∷ replicate 5 0) p 7 seven ∙ simp append_assoc)

-- The values of the record at a position

module _ (bytes : List ℕ) (at n : ℕ) (fits : 16 * at + 16 ≤ length bytes) (h : n ≤ 7) where
  pub length-values_at : length (values_at bytes at n) ≡ n
  unfolding values_at
  length-values_at = simp (length-take, length-drop) (omega (arith, length-record_at bytes at fits))

  pub values-read : take n (drop 2 (record_at bytes at)) ≡ values_at bytes at n
  unfolding values_at
  values-read = sym (take-take n 7 (drop 2 (record_at bytes at)) h)

  pub value-at : (i : ℕ) → i < n → record_byte bytes at (2 + i) ≡ get_or (values_at bytes at n) i 0
  unfolding values_at
  value-at i b =
      byte_at bytes at fits (2 + i) (omega arith)
      ∙ sym
      (get_or-take n (take 7 (drop 2 (record_at bytes at))) i 0 b
      ∙ get_or-take 7 (drop 2 (record_at bytes at)) i 0 (omega arith)
      ∙ get_or-drop 2 (record_at bytes at) i 0)

-- What is still to be offered from place i on

bit : (v : ℕ) → v < 7 → 1 * 2 ^ v % 256 ≡ 2 ^ v
bit zero h = refl
bit (suc zero) h = refl
bit (suc (suc zero)) h = refl
bit (suc (suc (suc zero))) h = refl
bit (suc (suc (suc (suc zero)))) h = refl
bit (suc (suc (suc (suc (suc zero))))) h = refl
bit (suc (suc (suc (suc (suc (suc zero)))))) h = refl
bit (suc (suc (suc (suc (suc (suc (suc v))))))) h = absurd (omega arith)

module _ (slot mask : ℕ) (vs : List ℕ) (i : ℕ) where
  module _ (b : i < length vs) where
    offers-cons : offers slot mask (drop i vs) ≡ offers slot mask (get_or vs i 0 ∷ drop (suc i) vs)
    offers-cons = ap (offers slot mask) (drop-cons vs i 0 b)

    pub offers-on : (v : ℕ) → v ≡ get_or vs i 0 → v < 7 → offers slot (bit_or mask (1 * 2 ^ v % 256)) (drop (i + 1) vs) ≡ offers slot mask (drop i vs)
    unfolding offers all_slots mask_of
    offers-on v e l =
        let k : get_or vs i 0 < 7 = omega arith in
        rw (bit v l, e, add-one) (sym (offers-cons ∙ rw (lt-ltb (get_or vs i 0) 7 k)))

    pub offers-ends : 7 ≤ get_or vs i 0 → offers slot mask (drop i vs) ≡ None
    unfolding offers all_slots
    offers-ends l = offers-cons ∙ rw (le-ltb (get_or vs i 0) 7 l)

  pub offers-all : length vs ≤ i → offers slot mask (drop i vs) ≡ Some (record { slot = slot; mask = mask })
  unfolding offers all_slots mask_of
  offers-all l = let e : drop i vs ≡ [] = drop_of_length-le vs {i = i} l in rw e
