-- Numbers and rows as bytes of a table. Assumes nothing.
--     byte-below                 a byte
--     bytes-append, little-bytes, row-is-bytes     what is made is bytes
--     little-at, u64-below       the eight bytes of a number that stands in a table
--     row-bytes                  the 24 of a row
use Prim.Native.Nat.{ℕ, zero, suc, ◌+◌, ◌*◌, ◌/◌, ◌%◌, ◌^◌, ◌≤◌, ◌<◌}
use mathlib.Core.List.{List, [], ◌∷◌, ◌++◌, map}
use mathlib.Core.Path.{◌≡◌, refl, ap, sym, ◌∙◌}
use native.Mathlib.Omega.{arith}
use native.Mathlib.Numerals.{add-one}
use lib.ListN.{length, get_or, take, drop}
use lib.Seq.{drop-cons, drop-drop, take-add}
use Rattle.rules.specs.Event.{little}
use Rattle.rules.specs.ConditionTree.{AllBytes}
use Rattle.rules.specs.Table.{u16_at, u32_at, u64_at, row_from}
use Rattle.rules.specs.Form.{fields_as_bytes}
use Rattle.rules.specs.Writer.{fields_of}

pub byte-below : (t : List ℕ) → AllBytes t → (i : ℕ) → get_or t i 0 < 256
byte-below [] h i = omega arith
byte-below (b ∷ t) h zero = h.0
byte-below (b ∷ t) h (suc i) = byte-below t h.1 i

pub bytes-append : (a b : List ℕ) → AllBytes a → AllBytes b → AllBytes (a ++ b)
bytes-append [] b h k = k
bytes-append (x ∷ a) b h k = (h.0, bytes-append a b h.1 k)

pub little-bytes : (n v : ℕ) → AllBytes (little n v)
unfolding little
little-bytes zero v = tt
little-bytes (suc n) v = (omega arith, little-bytes n (v / 256))

modulo-bytes : (vs : List ℕ) → AllBytes (map (λ (v : ℕ). v % 256) vs)
modulo-bytes [] = tt
modulo-bytes (v ∷ vs) = (omega arith, modulo-bytes vs)

pub row-is-bytes : (fields : List ℕ) → AllBytes (fields_as_bytes fields)
unfolding fields_as_bytes
row-is-bytes fields =
    bytes-append (map (λ (v : ℕ). v % 256) (take 6 fields)) _ (modulo-bytes (take 6 fields))
    (bytes-append (little 2 (get_or fields 6 0)) _ (little-bytes 2 (get_or fields 6 0))
    (bytes-append (little 8 (get_or fields 7 0)) (little 8 (get_or fields 8 0)) (little-bytes 8 (get_or fields 7 0)) (little-bytes 8 (get_or fields 8 0))))

-- n bytes from a place on, as a number
digits : ℕ → List ℕ → ℕ → ℕ
digits zero t at = 0
digits (suc n) t at = get_or t at 0 + 256 * digits n t (at + 1)

module _ (t : List ℕ) (bytes : AllBytes t) where
  little-digits : (n at : ℕ) → at + n ≤ length t → little n (digits n t at) ≡ take n (drop at t)
  unfolding little digits
  little-digits zero at h = refl
  little-digits (suc n) at h =
      let b = byte-below t bytes at in
      let low : (get_or t at 0 + 256 * digits n t (at + 1)) % 256 ≡ get_or t at 0 = omega arith in
      let high : (get_or t at 0 + 256 * digits n t (at + 1)) / 256 ≡ digits n t (at + 1) = omega arith in
      rw (low, high, drop-cons t at 0 (omega arith), ← add-one at) (ap (λ (l : List ℕ). get_or t at 0 ∷ l) (little-digits n (at + 1) (omega arith)))

  same : (i j : ℕ) → i ≡ j → get_or t i 0 ≡ get_or t j 0
  same i j e = ap (λ (k : ℕ). get_or t k 0) e

  u16-digits : (at : ℕ) → u16_at t at ≡ digits 2 t at
  unfolding u16_at digits
  u16-digits at = omega arith

  u64-digits : (at : ℕ) → u64_at t at ≡ digits 8 t at
  unfolding u64_at u32_at u16_at digits
  u64-digits at =
      omega
      (arith, same (at + 2) (at + 1 + 1) (omega arith), same (at + 2 + 1) (at + 1 + 1 + 1) (omega arith), same (at + 4) (at + 1 + 1 + 1 + 1) (omega arith), same (at + 4 + 1) (at + 1 + 1 + 1 + 1 + 1) (omega arith), same (at + 4 + 2) (at + 1 + 1 + 1 + 1 + 1 + 1) (omega arith), same (at + 4 + 2 + 1) (at + 1 + 1 + 1 + 1 + 1 + 1 + 1) (omega arith))

  pub little-at : (at : ℕ) → at + 8 ≤ length t → little 8 (u64_at t at) ≡ take 8 (drop at t)
  little-at at h = ap (little 8) (u64-digits at) ∙ little-digits 8 at h

  pub u16-below : (at : ℕ) → u16_at t at < 65536
  unfolding u16_at
  u16-below at = omega (arith, byte-below t bytes at, byte-below t bytes (at + 1))

  pub u64-below : (at : ℕ) → u64_at t at < 2 ^ 64
  unfolding u64_at u32_at
  u64-below at = omega (arith, u16-below at, u16-below (at + 2), u16-below (at + 4), u16-below (at + 4 + 2))

  -- a byte modulo 256
  byte-so : (i : ℕ) → get_or t i 0 % 256 ≡ get_or t i 0
  byte-so i = let b = byte-below t bytes i in omega arith

  -- the bytes from a place on, one by one
  from : ℕ → ℕ → List ℕ
  from zero at = []
  from (suc n) at = get_or t at 0 ∷ from n (at + 1)

  take-from : (n at : ℕ) → at + n ≤ length t → take n (drop at t) ≡ from n at
  unfolding from
  take-from zero at h = refl
  take-from (suc n) at h =
      rw (drop-cons t at 0 (omega arith), ← add-one at) (ap (λ (l : List ℕ). get_or t at 0 ∷ l) (take-from n (at + 1) (omega arith)))

  pub parts : (n m at : ℕ) → take (n + m) (drop at t) ≡ take n (drop at t) ++ take m (drop (at + n) t)
  parts n m at = take-add n m (drop at t) ∙ ap (λ (l : List ℕ). take n (drop at t) ++ take m l) (drop-drop n at t)

  row-front : (at : ℕ) → at + 6 ≤ length t →
      map (λ (v : ℕ). v % 256) (get_or t at 0 ∷ get_or t (at + 1) 0 ∷ get_or t (at + 2) 0 ∷ get_or t (at + 3) 0 ∷ get_or t (at + 4) 0 ∷ get_or t (at + 5) 0 ∷ []) ≡ take 6 (drop at t)
  unfolding from
  row-front at h =
      rw (byte-so at, byte-so (at + 1), byte-so (at + 2), byte-so (at + 3), byte-so (at + 4), byte-so (at + 5))
      ((λ i. get_or t at 0 ∷ get_or t (at + 1) 0 ∷ same (at + 2) (at + 1 + 1) (omega arith) i ∷ same (at + 3) (at + 1 + 1 + 1) (omega arith) i ∷ same (at + 4) (at + 1 + 1 + 1 + 1) (omega arith) i ∷ same (at + 5) (at + 1 + 1 + 1 + 1 + 1) (omega arith) i ∷ [])
      ∙ sym (take-from 6 at h))

  pub row-bytes : (at : ℕ) → at + 24 ≤ length t → fields_as_bytes (fields_of (row_from t at)) ≡ take 24 (drop at t)
  unfolding fields_as_bytes row_from
  row-bytes at h =
      let e : at + 6 + 2 ≡ at + 8 = omega arith in
      let f : at + 8 + 8 ≡ at + 16 = omega arith in
      let two : little 2 (u16_at t (at + 6)) ≡ take 2 (drop (at + 6) t) = ap (little 2) (u16-digits (at + 6)) ∙ little-digits 2 (at + 6) (omega arith) in
      (λ i. row-front at (omega arith) i ++ (two i ++ (little-at (at + 8) (omega arith) i ++ little-at (at + 16) (omega arith) i)))
      ∙ sym
      (parts 6 18 at
      ∙ ap (λ (l : List ℕ). take 6 (drop at t) ++ l)
      (parts 2 16 (at + 6)
      ∙ ap (λ (l : List ℕ). take 2 (drop (at + 6) t) ++ l)
      (ap (λ (j : ℕ). take 16 (drop j t)) e ∙ parts 8 8 (at + 8) ∙ ap (λ (j : ℕ). take 8 (drop (at + 8) t) ++ take 8 (drop j t)) f)))
