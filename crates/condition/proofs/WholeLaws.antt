-- Laws for all bytes of a condition. Assumes nothing.
--     found-bad, found-end                       where it ends, or what is bad, by what follows
--     none-fine, long-bad, bad-bad, end-fine     whether it is one
--     none-holds, bad-fails, read-holds          whether it holds
use Prim.Native.Nat.{ℕ, zero, suc, ◌+◌, ◌-◌, ◌*◌, ◌≤◌, ◌<◌}
use native.Mathlib.Omega.{arith}
use mathlib.Core.Bool.{true, false}
use mathlib.Core.List.{List, [], ◌∷◌}
use mathlib.Core.Path.{◌≡◌, refl, ap, sym, ◌∙◌}
use lib.Dec.{eqb, eqb-suc-zero}
use lib.ListN.{length, get_or, drop, length-drop, replicate}
use borrow.Author.Tests.{lt-leb, le-leb, eq-eqb, ne_eqb}
use Rattle.rules.specs.Condition as rules
use Rattle.rules.specs.Condition.{bad, read, condition_at, claim_at, ends, groups_deep, is_condition, holds}
use Rattle.rules.specs.State.{values_held}
use Rattle.condition.specs.Reads.{ReadsCondition, register_value, found_in}
use Rattle.std.specs.Prelude.{Result, Ok, Err}
use Rattle.condition.specs.declared.Read as code
use Rattle.condition.specs.declared.BadByte.{BadByte}

-- a table of zeros holds 0 in every register
zero-at : (n k : ℕ) → ◌≡◌ {A = ℕ} (get_or (replicate n 0) k 0) 0
zero-at zero k = refl
zero-at (suc n) zero = refl
zero-at (suc n) (suc k) = zero-at n k

nothing-held : register_value (replicate values_held 0) ≡ (λ (t r : ℕ). 0)
nothing-held = λ i t r. zero-at values_held (28 + (4 * t + r)) i

module _ (threads : ℕ) (bytes : List ℕ) {r : Result code.Read BadByte} (h : ReadsCondition bytes 0 r (condition_at threads (register_value (replicate values_held 0)) groups_deep (drop 0 bytes))) where
  back : {at : ℕ} → at ≤ length bytes → at ≡ length bytes - length (drop at bytes)
  back l = simp length-drop (omega arith)

  pub found-bad : {bad : BadByte} {q : Result ℕ BadByte} → r ≡ Err bad → q ≡ Err bad → q ≡ found_in (length bytes) (condition_at threads (λ (t r : ℕ). 0) groups_deep bytes)
  found-bad {bad} {q} e f =
      let one : ReadsCondition bytes 0 (Err bad) (condition_at threads (register_value (replicate values_held 0)) groups_deep bytes) = rw e at h in
      f ∙ rw (← nothing-held, ← one.is) (ap (λ (n : ℕ). Err (record { at = n })) (back one.within))

  pub found-end : {w : code.Read} → r ≡ Ok w → Ok w.end ≡ found_in (length bytes) (condition_at threads (λ (t r : ℕ). 0) groups_deep bytes)
  found-end {w} e =
      let one : ReadsCondition bytes 0 (Ok w) (condition_at threads (register_value (replicate values_held 0)) groups_deep bytes) = rw e at h in
      rw (← nothing-held, ← one.is) (ap (λ (n : ℕ). Ok n) (back one.within))

module _ (threads : ℕ) (register : ℕ → ℕ → ℕ) where
  claims : (bytes : List ℕ) → (length bytes ≡ 0 → ⊥) → claim_at threads register bytes ≡ condition_at threads register groups_deep bytes
  claims [] d = absurd (d refl)
  claims (b ∷ bytes) d = refl

  pub none-holds : (bytes : List ℕ) → length bytes ≡ 0 → true ≡ holds threads register bytes
  unfolding holds
  none-holds [] e = refl
  none-holds (b ∷ bytes) e = absurd (omega arith)

  module _ (bytes : List ℕ) (d : length bytes ≡ 0 → ⊥) {r : Result code.Read BadByte} (h : ReadsCondition bytes 0 r (condition_at threads register groups_deep (drop 0 bytes))) where
    pub bad-fails : {bad : BadByte} → r ≡ Err bad → false ≡ holds threads register bytes
    unfolding holds
    bad-fails {bad} e =
        let one : ReadsCondition bytes 0 (Err bad) (condition_at threads register groups_deep bytes) = rw e at h in
        rw (claims bytes d, ← one.is)

    pub read-holds : {w : code.Read} → r ≡ Ok w → w.holds ≡ holds threads register bytes
    unfolding holds
    read-holds {w} e =
        let one : ReadsCondition bytes 0 (Ok w) (condition_at threads register groups_deep bytes) = rw e at h in
        rw (claims bytes d, ← one.is)

-- what follows is none
same_end : (all rest : ℕ) → 0 < all → eqb (all - rest) all ≡ eqb rest 0
same_end all zero l = eq-eqb (all - 0) all (omega arith)
same_end all (suc rest) l = ne_eqb (all - suc rest) all (λ (e : all - suc rest ≡ all). omega arith) ∙ sym (eqb-suc-zero rest)

ends-not : (all : ℕ) (x : rules.Read) {why : BadByte} → Err why ≡ found_in all x → false ≡ ends x
ends-not all (bad rest) e = refl
ends-not all (read v rest) e = cc

ends_at : (all : ℕ) (x : rules.Read) {at : ℕ} → 0 < all → Ok at ≡ found_in all x → eqb at all ≡ ends x
ends_at all (bad rest) l e = cc
ends_at all (read v rest) {at} l e = let p : at ≡ all - length rest = cc in rw p (same_end all (length rest) l)

module _ (threads : ℕ) where
  pub none-fine : (bytes : List ℕ) → length bytes ≡ 0 → true ≡ is_condition threads bytes
  unfolding is_condition
  none-fine [] e = refl
  none-fine (b ∷ bytes) e = absurd (omega arith)

  module _ (bytes : List ℕ) where
    pub long-bad : rules.condition_bytes < length bytes → false ≡ is_condition threads bytes
    unfolding is_condition
    long-bad l = rw (lt-leb _ _ l)

    module _ (l : length bytes ≤ rules.condition_bytes) (d : length bytes ≡ 0 → ⊥) {r : Result ℕ BadByte}
        (h : r ≡ found_in (length bytes) (condition_at threads (λ (t r : ℕ). 0) groups_deep bytes)) where
      pub bad-bad : {why : BadByte} → r ≡ Err why → false ≡ is_condition threads bytes
      unfolding is_condition
      bad-bad e = rw (le-leb _ _ l, claims threads _ bytes d) (ends-not (length bytes) (condition_at threads (λ (t r : ℕ). 0) groups_deep bytes) (sym e ∙ h))

      pub end-fine : {at : ℕ} → r ≡ Ok at → eqb at (length bytes) ≡ is_condition threads bytes
      unfolding is_condition
      end-fine e = rw (le-leb _ _ l, claims threads _ bytes d) (ends_at (length bytes) (condition_at threads (λ (t r : ℕ). 0) groups_deep bytes) (omega arith) (sym e ∙ h))
