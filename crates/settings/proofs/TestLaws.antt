-- The tests of the settings. Assumes nothing.
--     settings-made              of B, L and N
--     holds-both, holds_not      of a buffer's length
use Prim.Native.Nat.{ℕ, ◌*◌, ◌/◌, ◌%◌, ◌≤◌, ◌<◌}
use mathlib.Core.Bool.{Bool, true, false, ◌&&◌}
use mathlib.Core.Path.{◌≡◌, refl, sym, ap, ◌∙◌}
use native.Mathlib.Omega.{arith}
use lib.Dec.{leb, ltb, eqb}
use borrow.Author.Tests.{le-leb, lt-leb, lt-ltb, le-ltb, eq-eqb, ne_eqb, eqb-true}
use Rattle.rules.specs.Explored as rules
use Rattle.rules.specs.Explored.{settings_fine, within}

pub settings-made : (s : rules.Settings) {a b c : Bool} → a ≡ within s.branches rules.max_branches → b ≡ within s.operations rules.max_operations → c ≡ within s.executions rules.max_executions → a && b && c ≡ settings_fine s
unfolding settings_fine
settings-made s p q r = rw (p, q, r)

same_test : (x y : Bool) → (x ≡ true → y ≡ true) → (y ≡ true → x ≡ true) → x ≡ y
same_test true true f g = refl
same_test true false f g = sym (f refl)
same_test false true f g = g refl
same_test false false f g = refl

pub holds-both : (bytes records : ℕ) → bytes % 16 ≡ 0 → eqb (bytes / 16) records ≡ eqb bytes (16 * records)
holds-both bytes records h =
    same_test (eqb (bytes / 16) records) (eqb bytes (16 * records))
    (λ (e : eqb (bytes / 16) records ≡ true). eq-eqb bytes (16 * records) (omega (arith, eqb-true (bytes / 16) records e)))
    (λ (e : eqb bytes (16 * records) ≡ true). eq-eqb (bytes / 16) records (omega (arith, eqb-true bytes (16 * records) e)))

pub holds_not : (bytes records : ℕ) → (bytes % 16 ≡ 0 → ⊥) → eqb (bytes % 16) 0 ≡ eqb bytes (16 * records)
holds_not bytes records h =
    ne_eqb (bytes % 16) 0 h ∙ sym (ne_eqb bytes (16 * records) (λ (e : bytes ≡ 16 * records). h (omega arith)))
