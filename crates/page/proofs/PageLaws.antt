-- The laws of a line: a byte and a text with room and without, one turn of each loop. Assumes nothing.
--     text-put      a text as a whole
--     text-copied, pad-*         the same by what is written at once, and spaces so
--     fill-*      what is left of a text with numbers
--     right-at      a number that ends at a column
use Prim.Native.Nat.{ℕ, suc, min, ◌+◌, ◌-◌, ◌≤◌, ◌<◌}
use mathlib.Core.List.{List, [], ◌∷◌}
use mathlib.Core.Bool.{Bool, true, false, cond}
use mathlib.Core.Path.{◌≡◌, refl, ap, sym, ◌∙◌}
use native.Mathlib.Omega.{arith}
use native.Mathlib.Numerals.{add-one}
use native.Mathlib.Nat.{add-zero}
use native.Mathlib.Decide.{dec_lt}
use borrow.Author.Tests.{lt-ltb, le-ltb, eq-eqb, ne_eqb}
use lib.Dec.{eqb}
use lib.ListN.{length, get_or, set, take, drop, replicate, drop_of_length-le}
use lib.Seq.{sets, sets-eq, drop-cons, drop-drop, take-nil}
use Rattle.std.proofs.lemmas.List.{append_assoc, take_min, length-take-le, length-drop, length-replicate, take-replicate}
use borrow.Rule.Slice.PartMut.{put_mid}
use Rattle.digits.specs.Shown.{shown}
use Rattle.page.specs.Pages.{Page, page_of, put_byte, put_text, put_one, put_filled, padded, right_at}

module _ (bytes : List ℕ) (at : ℕ) where
  pub byte_fits : (b : ℕ) → at < 16384 → put_byte (page_of bytes at) b ≡ page_of (set bytes at b) (at + 1)
  unfolding put_byte
  byte_fits b h = rw (lt-ltb at 16384 h)

  pub byte-lost : (b : ℕ) → 16384 ≤ at → put_byte (page_of bytes at) b ≡ page_of bytes at
  unfolding put_byte
  byte-lost b h = rw (le-ltb at 16384 h)

  pub text-lost : (bs : List ℕ) → 16384 ≤ at → put_text (page_of bytes at) bs ≡ page_of bytes at
  unfolding put_text
  text-lost [] h = refl
  text-lost (b ∷ bs) h = rw (byte-lost b h) (text-lost bs h)

-- a text as a whole: as much of it as there is room for stands behind the end, and every other byte is as it was
pub text-put : (text bytes : List ℕ) (at : ℕ) →
    put_text (page_of bytes at) text ≡ page_of (sets bytes at (take (16384 - at) text)) (at + length (take (16384 - at) text))
unfolding put_text
text-put [] bytes at = rw (take-nil (16384 - at), add-zero)
text-put (b ∷ bs) bytes at =
    elim (dec_lt at 16384) [
      | yes h ↦
          let e : 16384 - at ≡ suc (16384 - (at + 1)) = omega arith in
          let m : List ℕ = take (16384 - (at + 1)) bs in
          let n : at + 1 + length m ≡ at + suc (length m) = omega arith in
          rw (byte_fits bytes at b h, e) (text-put bs (set bytes at b) (at + 1) ∙ rw (n, add-one at))
      | no h ↦
          let full : 16384 ≤ at = omega arith in
          let e : 16384 - at ≡ 0 = omega arith in
          rw (byte-lost bytes at b full, e, add-zero) (text-lost bytes at bs full)
    ]

-- the same, where so much of the text was written over what stood there
pub text-copied : (text bytes new : List ℕ) (at n k : ℕ) → length bytes ≡ 16384 → at ≤ 16384 → n ≡ min (16384 - at) (length text) →
    new ≡ take n text → k ≡ n → page_of (put_mid at k bytes new) (at + n) ≡ put_text (page_of bytes at) text
text-copied text bytes new at n k l h e f g =
    let fits : n ≤ length text = omega (arith, e) in
    let room : at + n ≤ 16384 = omega (arith, e) in
    let part : take n text ≡ take (16384 - at) text = rw e (take_min (16384 - at) text) in
    let long : length (take n text) ≡ n = length-take-le n text fits in
    let put = rw (← part, sets-eq (take n text) bytes at (omega (arith, long)), long) at (text-put text bytes at) in
    rw (g, f, drop-drop n at bytes, ← append_assoc) (sym put)

-- Spaces up to a column

pub pad-none : (bytes : List ℕ) (at column end : ℕ) → end ≡ min column 16384 → end ≤ at → page_of bytes at ≡ padded (page_of bytes at) column
unfolding put_text
pad-none bytes at column end e h =
    elim (dec_lt at column) [
      | yes l ↦ sym (text-lost bytes at (replicate (column - at) 32) (omega (arith, e)))
      | no l ↦ let z : column - at ≡ 0 = omega arith in rw z
    ]

pub pad-put : (bytes new : List ℕ) (at column end : ℕ) → length bytes ≡ 16384 → end ≡ min column 16384 → at < end →
    new ≡ replicate (length (take (end - at) (drop at bytes))) 32 → page_of (put_mid at (end - at) bytes new) end ≡ padded (page_of bytes at) column
pad-put bytes new at column end l e h f =
    let spaces : List ℕ = replicate (column - at) 32 in
    let long : length spaces ≡ column - at = length-replicate (column - at) 32 in
    let few : end - at ≡ min (16384 - at) (length spaces) = omega (arith, e, long) in
    let part : replicate (end - at) 32 ≡ take (end - at) spaces = sym (take-replicate (end - at) (column - at) 32 (omega (arith, e))) in
    let ends : at + (end - at) ≡ end = omega arith in
    let over : length (take (end - at) (drop at bytes)) ≡ end - at =
    length-take-le (end - at) (drop at bytes) (omega (arith, e, length-drop at bytes)) in
    rw ends at (text-copied spaces bytes new at (end - at) (end - at) l (omega (arith, e)) few (rw over at f ∙ part) refl)

-- A text with numbers: what is left of it at place i, with the numbers that are next

module _ (l m : Page) (b n : ℕ) where
  pub one_number : b ≡ 35 → m ≡ put_text l (shown n) → m ≡ put_one l b n
  one_number e put = rw (eq-eqb b 35 e) put

  pub one_byte : (b ≡ 35 → ⊥) → m ≡ put_byte l b → m ≡ put_one l b n
  one_byte e put = rw (ne_eqb b 35 e) put

module _ (text : List ℕ) (i : ℕ) (l : Page) (p q r : ℕ) (whole : Page) (left : put_filled l (drop i text) p q r ≡ whole) where
  fill_one : i < length text → put_filled l (drop i text) p q r
      ≡ cond (eqb (get_or text i 0) 35) (put_filled (put_text l (shown p)) (drop (i + 1) text) q r r) (put_filled (put_byte l (get_or text i 0)) (drop (i + 1) text) p q r)
  unfolding put_filled
  fill_one h = rw (add-one i, drop-cons text i 0 h)

  module _ (h : i < length text) (m : Page) (put : m ≡ put_one l (get_or text i 0) p) where
    pub fill-number : get_or text i 0 ≡ 35 → put_filled m (drop (i + 1) text) q r r ≡ whole
    fill-number e =
        let t : eqb (get_or text i 0) 35 ≡ true = eq-eqb (get_or text i 0) 35 e in
        cc (fill_one h, ap (λ (b : Bool). cond b (put_text l (shown p)) (put_byte l (get_or text i 0))) t)

    pub fill-byte : (get_or text i 0 ≡ 35 → ⊥) → put_filled m (drop (i + 1) text) p q r ≡ whole
    fill-byte e =
        let t : eqb (get_or text i 0) 35 ≡ false = ne_eqb (get_or text i 0) 35 e in
        cc (fill_one h, ap (λ (b : Bool). cond b (put_text l (shown p)) (put_byte l (get_or text i 0))) t)

  pub fill_end : length text ≤ i → l ≡ whole
  unfolding put_filled
  fill_end h = rw (drop_of_length-le text {i = i} h) at left

-- A number that ends at a column

pub right-at : (l m k : Page) (column n width from : ℕ) → width ≡ length (shown n) → from ≡ column - width → m ≡ padded l from → k ≡ put_text m (shown n) → k ≡ right_at l column n
right-at l m k column n width from w f pad put = rw (put, pad, f, w)
