-- Laws for reading a condition by places. Assumes nothing.
--     here, past, number     the byte at a place, and the number
--     short, wrong, right    a comparison
--     bare, alone, opened    a condition: at depth 0, without a bracket, with one
use Prim.Native.Nat.{ℕ, zero, suc, ◌+◌, ◌-◌, ◌≤◌, ◌<◌}
use native.Mathlib.Omega.{arith}
use native.Mathlib.Nat.{add-zero, add_assoc}
use native.Mathlib.Numerals.{sub-one}
use mathlib.Core.Bool.{Bool, true, false, cond, ◌&&◌}
use mathlib.Core.List.{List}
use mathlib.Core.Path.{◌≡◌, refl, ap, subst, sym, ◌∙◌}
use lib.Dec.{ltb}
use lib.ListN.{length, get_or, drop, length-drop, drop_of_length-le}
use lib.Seq.{get_or-drop, drop-drop}
use borrow.Author.Tests.{lt-leb, le-leb, eq-eqb, ne_eqb}
use Rattle.rules.specs.Table.{u16_at, u32_at, u64_at, is_register}
use Rattle.rules.specs.Condition.{bad, read, next_byte, opens, is_sign, compared, comparison_at, condition_at, group_at}
use Rattle.condition.specs.Reads.{ReadsCondition, NextByte, read_of}
use Rattle.std.specs.Prelude.{Result, Ok, Err}
use Rattle.condition.specs.declared.Read as code
use Rattle.condition.specs.declared.BadByte.{BadByte}

module _ (bytes : List ℕ) (at : ℕ) where
  pub here : get_or bytes at 0 ≡ next_byte (drop at bytes)
  here = ap (λ (k : ℕ). get_or bytes k 0) (sym (add-zero at)) ∙ sym (get_or-drop at bytes 0 0)

  pub past : length bytes ≤ at → 0 ≡ next_byte (drop at bytes)
  past h = rw (drop_of_length-le bytes h)

  pub number : u64_at bytes (at + 3) ≡ u64_at (drop at bytes) 3
  unfolding u16_at u32_at u64_at
  number = simp (get_or-drop, add_assoc)

-- A comparison

module _ (threads : ℕ) (register : ℕ → ℕ → ℕ) (bytes : List ℕ) (at : ℕ) where
  pub short : at ≤ length bytes → length bytes - at < 11 → ReadsCondition bytes at (Err (record { at = at })) (comparison_at threads register (drop at bytes))
  unfolding comparison_at
  short l h = record { is = rw (length-drop, lt-leb 11 (length bytes - at) h); on = omega arith; within = l }

  module _ (h : 11 ≤ length bytes - at) {sign thread place : ℕ}
      (s : sign ≡ get_or bytes at 0) (t : thread ≡ get_or bytes (at + 1) 0) (p : place ≡ get_or bytes (at + 2) 0) where
    fields : comparison_at threads register (drop at bytes)
        ≡ cond ((is_sign sign && ltb thread threads) && is_register place) (read (compared sign (register thread place) (u64_at bytes (at + 3))) (drop (at + 11) bytes)) (bad (drop at bytes))
    unfolding comparison_at
    fields = rw (s, t, p, here bytes at, number bytes at, length-drop, le-leb 11 (length bytes - at) h) (simp (get_or-drop, drop-drop))

    module _ {i : Bool} (d : i ≡ is_sign sign) where
      pub wrong : ((i && ltb thread threads) && is_register place) ≡ false → ReadsCondition bytes at (Err (record { at = at })) (comparison_at threads register (drop at bytes))
      wrong e = record { is = rw (fields, ← d, e); on = omega arith; within = omega arith }

      pub right : ((i && ltb thread threads) && is_register place) ≡ true → {x n : ℕ} {v : Bool} → x ≡ register thread place → n ≡ u64_at bytes (at + 3) → v ≡ compared sign x n →
          ReadsCondition bytes at (Ok (record { holds = v; end = at + 11 })) (comparison_at threads register (drop at bytes))
      right e q m r = record { is = rw (fields, ← d, e, r, q, m); on = omega arith; within = omega arith }

-- A condition

module _ (threads : ℕ) (register : ℕ → ℕ → ℕ) (bytes : List ℕ) (at : ℕ) {r : Result code.Read BadByte} where
  pub bare : {deep : ℕ} → deep ≡ 0 → ReadsCondition bytes at r (comparison_at threads register (drop at bytes)) → ReadsCondition bytes at r (condition_at threads register deep (drop at bytes))
  unfolding condition_at
  bare e h = rw e h

  pub alone : (deep : ℕ) {b : ℕ} → NextByte bytes at b → (b ≡ opens → ⊥) → ReadsCondition bytes at r (comparison_at threads register (drop at bytes)) → ReadsCondition bytes at r (condition_at threads register deep (drop at bytes))
  unfolding condition_at
  alone zero n d h = h
  alone (suc deep) n d h = rw (ne_eqb _ _ (λ (q : next_byte (drop at bytes) ≡ opens). d (n.is ∙ q))) h

  pub opened : (deep : ℕ) {b : ℕ} → NextByte bytes at b → b ≡ opens → (deep ≡ 0 → ⊥) → ReadsCondition bytes (at + 1) r (group_at (condition_at threads register (deep - 1)) (drop (at + 1) bytes)) → ReadsCondition bytes at r (condition_at threads register deep (drop at bytes))
  unfolding condition_at
  opened zero n e z h = absurd (z refl)
  opened (suc deep) n e z h =
      let less = subst (λ (k : ℕ). read_of bytes r ≡ group_at (condition_at threads register k) (drop (at + 1) bytes)) (sub-one (suc deep)) h.is in
      let joined = less ∙ ap (λ (bs : List ℕ). group_at (condition_at threads register deep) bs) (sym (drop-drop 1 at bytes)) in
      record { is = rw (eq-eqb _ _ (sym n.is ∙ e)) joined; on = omega (arith, h.on); within = h.within }
