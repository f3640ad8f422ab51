-- A condition's bytes as they are written. Assumes nothing.
--     blank_none, blank-one        the blank before a unit
--     sign-there, units-on         a comparison is whole, and what is behind a unit
--     comparison-whole, unit-..    one unit
--     units-next, units-end, units-out     the units one by one
--     condition-none, condition-some       the line
use Prim.Native.Nat.{ℕ, zero, suc, ◌+◌, ◌-◌, ◌≤◌, ◌<◌}
use mathlib.Core.List.{List, [], ◌∷◌, ◌++◌, append_assoc}
use mathlib.Core.Bool.{Bool, true, false, true≢false, cond, ◌||◌, and-eq-true_iff}
use mathlib.Core.Path.{◌≡◌, refl, ap, sym, subst, ◌∙◌}
use native.Mathlib.Nat.{add_assoc}
use native.Mathlib.Numerals.{add-one}
use native.Mathlib.Omega.{arith}
use borrow.Author.Tests.{ne_eqb, leb-true}
use lib.Dec.{leb, eqb}
use lib.ListN.{length, get_or, drop, length-drop, drop_of_length-le}
use lib.Seq.{drop-cons, get_or-drop, drop-drop}
use Rattle.rules.specs.Table.{u16_at, u32_at, u64_at}
use Rattle.rules.specs.Condition.{is_sign, opens, closes}
use Rattle.rules.specs.Token.{bytes_of, space}
use Rattle.rules.specs.Writer.{shown, blank_before, units_shown, condition_shown}
use Rattle.condition_line.specs.Units.{Units, word, comparison, symbol_shown, comparison_shown, unit_shown, unit_bytes}

-- One unit

module _ (opened : Bool) (b : ℕ) where
  pub blank_none : (opened || eqb b closes) ≡ true → [] ≡ blank_before opened b
  blank_none e = ap (λ (t : Bool). cond t [] (space ∷ [])) (sym e)

  pub blank-one : (opened || eqb b closes) ≡ false → space ∷ [] ≡ blank_before opened b
  blank-one e = ap (λ (t : Bool). cond t [] (space ∷ [])) (sym e)

  module _ (bs : List ℕ) where
    pub unit-sign : is_sign b ≡ true → blank_before opened b ++ comparison_shown b bs ≡ unit_shown opened b bs
    unit-sign e = ap (λ (t : Bool). blank_before opened b ++ cond t (comparison_shown b bs) (symbol_shown b)) (sym e)

    pub unit-word : is_sign b ≡ false → blank_before opened b ++ symbol_shown b ≡ unit_shown opened b bs
    unit-word e = ap (λ (t : Bool). blank_before opened b ++ cond t (comparison_shown b bs) (symbol_shown b)) (sym e)

pub bytes-sign : (b : ℕ) (t : Bool) → is_sign b ≡ t → cond t 11 1 ≡ unit_bytes b
bytes-sign b t e = ap (λ (s : Bool). cond s 11 1) (sym e)

module _ (bytes : List ℕ) (from : ℕ) where
  number-there : u64_at bytes (from + 3) ≡ u64_at (drop (from + 1) bytes) 2
  unfolding u16_at u32_at u64_at
  number-there = simp (get_or-drop, add_assoc)

  pub comparison-whole : (n : ℕ) → n ≡ u64_at bytes (from + 3)
      → ((48 + get_or bytes (from + 1) 0) ∷ 46 ∷ 114 ∷ (48 + get_or bytes (from + 2) 0) ∷ space ∷ []) ++ (symbol_shown (get_or bytes from 0) ++ ((space ∷ []) ++ shown n)) ≡ comparison_shown (get_or bytes from 0) (drop (from + 1) bytes)
  comparison-whole n e =
      let first : get_or bytes (from + 1) 0 ≡ get_or (drop (from + 1) bytes) 0 0 = simp (get_or-drop, add_assoc) in
      let second : get_or bytes (from + 2) 0 ≡ get_or (drop (from + 1) bytes) 1 0 = simp (get_or-drop, add_assoc) in
      rw (e, number-there, first, second)

-- Behind one

sign_fits : (b : ℕ) (bs : List ℕ) → Units (b ∷ bs) → is_sign b ≡ true → (10 ≤ length bs) × (get_or bs 0 0 < 10) × (get_or bs 1 0 < 10)
sign_fits b bs (word e u) s = absurd (true≢false (sym s ∙ e))
sign_fits b bs (comparison e h t r u) s = (h, t, r)

next-units : (b : ℕ) (bs : List ℕ) → Units (b ∷ bs) → Units (drop (unit_bytes b) (b ∷ bs)) × (unit_bytes b ≤ suc (length bs))
next-units b bs (word e u) = rw e (u, omega arith)
next-units b bs (comparison e h t r u) = rw e (u, omega arith)

module _ (bytes : List ℕ) (from : ℕ) (h : from < length bytes) (u : Units (drop from bytes)) where
  here : Units (get_or bytes from 0 ∷ drop (suc from) bytes)
  here = subst Units (drop-cons bytes from 0 h) u

  pub sign-there : is_sign (get_or bytes from 0) ≡ true → (from + 11 ≤ length bytes) × (get_or bytes (from + 1) 0 < 10) × (get_or bytes (from + 2) 0 < 10)
  sign-there s =
      let fit = sign_fits _ _ here s in
      let first : get_or (drop (suc from) bytes) 0 0 ≡ get_or bytes (from + 1) 0 = let e : suc from + 0 ≡ from + 1 = omega arith in get_or-drop (suc from) bytes 0 0 ∙ ap (λ (i : ℕ). get_or bytes i 0) e in
      let second : get_or (drop (suc from) bytes) 1 0 ≡ get_or bytes (from + 2) 0 = let e : suc from + 1 ≡ from + 2 = omega arith in get_or-drop (suc from) bytes 1 0 ∙ ap (λ (i : ℕ). get_or bytes i 0) e in
      (omega (arith, fit.0, length-drop (suc from) bytes), omega (arith, fit.1, first), omega (arith, fit.2, second))

  pub units-on : Units (drop (from + unit_bytes (get_or bytes from 0)) bytes)
  units-on =
      subst Units
      (ap (drop (unit_bytes (get_or bytes from 0))) (sym (drop-cons bytes from 0 h)) ∙ drop-drop (unit_bytes (get_or bytes from 0)) from bytes)
      (next-units _ _ here).0

  pub units-within : from + unit_bytes (get_or bytes from 0) ≤ length bytes
  units-within = omega (arith, (next-units _ _ here).1, length-drop (suc from) bytes)

-- All of them

module _ (n : ℕ) (opened : Bool) (b : ℕ) (bs : List ℕ) where
  abbrev by_sign : Bool → List ℕ
  by_sign t =
      elim t [
        | true ↦
            blank_before opened b
            ++ ((48 + get_or bs 0 0) ∷ 46 ∷ 114 ∷ (48 + get_or bs 1 0) ∷ space ∷ (symbol_shown b ++ (space ∷ (shown (u64_at bs 2) ++ units_shown n false (drop 10 bs)))))
        | false ↦ blank_before opened b ++ (symbol_shown b ++ units_shown n (eqb b opens) bs)
      ]

  by-sign-next : units_shown (suc n) opened (b ∷ bs) ≡ by_sign (is_sign b)
  unfolding units_shown
  by-sign-next = refl

  by_parts : (t : Bool) → is_sign b ≡ t
      → (blank_before opened b ++ cond t (comparison_shown b bs) (symbol_shown b)) ++ units_shown n (eqb b opens) (drop (cond t 11 1) (b ∷ bs)) ≡ by_sign t
  by_parts true e =
      let least = leb-true b 6 ((and-eq-true_iff (leb 1 b) (leb b 6)).0 e).1 in
      let no : eqb b opens ≡ false = ne_eqb b 7 (λ (z : b ≡ 7). omega arith) in
      ap (λ (o : Bool). (blank_before opened b ++ comparison_shown b bs) ++ units_shown n o (drop 10 bs)) no ∙ (simp append_assoc)
  by_parts false e = append_assoc (blank_before opened b) (symbol_shown b) (units_shown n (eqb b opens) bs)

  unit-cons : units_shown (suc n) opened (b ∷ bs) ≡ unit_shown opened b bs ++ units_shown n (eqb b opens) (drop (unit_bytes b) (b ∷ bs))
  unit-cons = by-sign-next ∙ sym (by_parts (is_sign b) refl)

module _ (bytes : List ℕ) (from left : ℕ) (opened : Bool) where
  pub units-next : 0 < left → from < length bytes
      → units_shown left opened (drop from bytes) ≡ unit_shown opened (get_or bytes from 0) (drop (from + 1) bytes) ++ units_shown (left - 1) (eqb (get_or bytes from 0) opens) (drop (from + unit_bytes (get_or bytes from 0)) bytes)
  units-next more h =
      let s : left ≡ suc (left - 1) = omega arith in
      ap (λ (n : ℕ). units_shown n opened (drop from bytes)) s
      ∙ ap (units_shown (suc (left - 1)) opened) (drop-cons bytes from 0 h)
      ∙ unit-cons (left - 1) opened (get_or bytes from 0) (drop (suc from) bytes)
      ∙ ap (λ (bs : List ℕ). unit_shown opened (get_or bytes from 0) (drop (suc from) bytes) ++ units_shown (left - 1) (eqb (get_or bytes from 0) opens) bs) (ap (drop (unit_bytes (get_or bytes from 0))) (sym (drop-cons bytes from 0 h)) ∙ drop-drop (unit_bytes (get_or bytes from 0)) from bytes)
      ∙ ap (λ (k : ℕ). unit_shown opened (get_or bytes from 0) (drop k bytes) ++ units_shown (left - 1) (eqb (get_or bytes from 0) opens) (drop (from + unit_bytes (get_or bytes from 0)) bytes)) (sym (add-one from))

  pub units-out : left ≤ 0 → units_shown left opened (drop from bytes) ≡ []
  unfolding units_shown
  units-out h = let e : left ≡ 0 = omega arith in ap (λ (n : ℕ). units_shown n opened (drop from bytes)) e

units-none : (n : ℕ) (opened : Bool) → units_shown n opened [] ≡ []
unfolding units_shown
units-none zero opened = refl
units-none (suc n) opened = refl

pub units-end : (bytes : List ℕ) (from left : ℕ) (opened : Bool) → length bytes ≤ from → units_shown left opened (drop from bytes) ≡ []
units-end bytes from left opened h = ap (units_shown left opened) (drop_of_length-le bytes {i = from} h) ∙ units-none left opened

-- The line

pub condition-none : (bytes : List ℕ) → length bytes ≡ 0 → [] ≡ condition_shown bytes
unfolding condition_shown
condition-none [] e = refl
condition-none (b ∷ bs) e = absurd (omega arith)

pub condition-some : (bytes : List ℕ) → (length bytes ≡ 0 → ⊥) → bytes_of "finally" ++ (units_shown (length bytes) false bytes ++ (10 ∷ [])) ≡ condition_shown bytes
unfolding condition_shown
condition-some [] n = absurd (n refl)
condition-some (b ∷ bs) n = refl
