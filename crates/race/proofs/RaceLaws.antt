-- The two accesses of a race, by the number of its kind. Assumes nothing.
--     plain-yes, plain-no      whether a plain cell is accessed, by the place among the variants
--     met_by, before_by          the access that met the race, and the one before it
--     among                    what is the same at each of n numbers
--     past-last                a number past the last kind
--     before-other             a number by which the one before is the exclusive change
use Prim.Native.Nat.{ℕ, zero, suc, ◌+◌, ◌≤◌, ◌<◌}
use mathlib.Core.Bool.{true, false}
use mathlib.Core.List.{List, [], ◌∷◌}
use mathlib.Core.Path.{◌≡◌, refl, ap, sym, ◌∙◌}
use native.Mathlib.Decide.{dec_lt}
use native.Mathlib.Omega.{arith}
use borrow.Author.Tests.{ne_eqb}
use types.Run.{OneOf, miss}
use denote.Enum.Declared.{tag_of}
use lib.Dec.{eqb}
use Rattle.last_access.specs.contracts.AccessKind.{the_type}
use Rattle.last_access.specs.declared.AccessKind.{AccessKind}
use Rattle.last_access.specs.declared.AccessKind.TheVariants.{Load, UnsyncLoad, Store, Exclusive, PlainRead, PlainWrite}
use Rattle.race.specs.Races.{◌against◌, race_said, is_plain}

-- The places among the variants of the accesses to a plain cell, and of the others

abbrev plain : List ℕ
plain = 4 ∷ 5 ∷ []

abbrev others : List ℕ
others = 0 ∷ 1 ∷ 2 ∷ 3 ∷ []

pub plain-yes : (k : AccessKind) → OneOf plain (tag_of the_type k) → is_plain k ≡ true
plain-yes Load h = absurd (miss plain 0 tt h)
plain-yes UnsyncLoad h = absurd (miss plain 1 tt h)
plain-yes Store h = absurd (miss plain 2 tt h)
plain-yes Exclusive h = absurd (miss plain 3 tt h)
plain-yes PlainRead h = refl
plain-yes PlainWrite h = refl

pub plain-no : (k : AccessKind) → OneOf others (tag_of the_type k) → is_plain k ≡ false
plain-no Load h = refl
plain-no UnsyncLoad h = refl
plain-no Store h = refl
plain-no Exclusive h = refl
plain-no PlainRead h = absurd (miss others 4 tt h)
plain-no PlainWrite h = absurd (miss others 5 tt h)

-- By the number

abbrev pub met_by : ℕ → AccessKind
met_by kind = (race_said kind).0

abbrev pub before_by : ℕ → AccessKind
before_by kind = (race_said kind).1

-- that it is so at each of the n numbers from this one on
abbrev Each : {A : Type 0} → (ℕ → A) → A → ℕ → ℕ → Type 0
Each f x from zero = Unit
Each f x from (suc n) = (x ≡ f from) × Each f x (from + 1) n

pub among : {A : Type 0} (f : ℕ → A) {x : A} (from n : ℕ) → Each f x from n → (k : ℕ) → from ≤ k → k < from + n → x ≡ f k
among f from zero each k h l = absurd (omega arith)
among f from (suc n) each k h l =
    elim (dec_lt from k) [
      | yes m ↦ among f (from + 1) n each.1 k (omega arith) (omega arith)
      | no m ↦ let e : from ≡ k = omega arith in each.0 ∙ ap f e
    ]

pub past-last : (k : ℕ) → 13 ≤ k → race_said k ≡ (Exclusive against Exclusive)
past-last k h =
    let not : (n : ℕ) → n < 13 → eqb k n ≡ false = λ n l. ne_eqb k n (λ e. omega arith) in
    rw (
      not 1 (omega arith),
      not 2 (omega arith),
      not 3 (omega arith),
      not 4 (omega arith),
      not 5 (omega arith),
      not 6 (omega arith),
      not 7 (omega arith),
      not 8 (omega arith),
      not 10 (omega arith),
      not 11 (omega arith),
      not 12 (omega arith),
    )

-- The one before, in the kinds 1, 2, 4 and 9 and in what is no kind

before-low : (k : ℕ) → k < 5 → (k ≡ 3 → ⊥) → Exclusive ≡ before_by k
before-low k l n3 =
    elim (dec_lt k 3) [
      | yes h ↦ among before_by 0 3 (refl, (refl, (refl, tt))) k (omega arith) h
      | no h ↦ among before_by 4 1 (refl, tt) k (omega arith) l
    ]

before-middle : (k : ℕ) → 5 ≤ k → k < 10 → (k ≡ 5 → ⊥) → (k ≡ 6 → ⊥) → (k ≡ 7 → ⊥) → (k ≡ 8 → ⊥) → Exclusive ≡ before_by k
before-middle k h l n5 n6 n7 n8 = among before_by 9 1 (refl, tt) k (omega arith) l

before-high : (k : ℕ) → 10 ≤ k → (k ≡ 10 → ⊥) → (k ≡ 11 → ⊥) → (k ≡ 12 → ⊥) → Exclusive ≡ before_by k
before-high k h n10 n11 n12 = sym (ap (λ (r : AccessKind × AccessKind). r.1) (past-last k (omega arith)))

not-lt : {k n : ℕ} → (k < n → ⊥) → n ≤ k
not-lt h = omega arith

pub before-other : (k : ℕ) → (k ≡ 3 → ⊥) → (k ≡ 5 → ⊥) → (k ≡ 6 → ⊥) → (k ≡ 7 → ⊥) → (k ≡ 8 → ⊥) → (k ≡ 10 → ⊥) → (k ≡ 11 → ⊥) → (k ≡ 12 → ⊥) → Exclusive ≡ before_by k
before-other k n3 n5 n6 n7 n8 n10 n11 n12 =
    elim (dec_lt k 5) [
      | yes h ↦ before-low k h n3
      | no h ↦
          elim (dec_lt k 10) [
            | yes l ↦ before-middle k (not-lt h) l n5 n6 n7 n8
            | no l ↦ before-high k (not-lt l) n10 n11 n12
          ]
    ]
