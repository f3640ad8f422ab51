-- The laws of the arm of a match that takes all other rows together. Assumes nothing.
--     numbered            the variants stand in the order of their opcodes
--     by_number           a row of those arms, by its opcode
--     no_number           the opcodes that such a row does not have
--     all_but              the places of all but these
--     narrow              one of these keys that is one of those too
use Prim.Native.Nat.{ℕ}
use mathlib.Core.Bool.{Bool, true, false, cond, not, ◌&&◌, ◌||◌}
use mathlib.Core.List.{List, [], ◌∷◌}
use mathlib.Core.Path.{◌≡◌, refl, sym, subst}
use mathlib.Core.Logic.{inl, inr}
use mir.Facts.{and_yes, or_yes}
use mir.Val.{has_key}
use lib.Dec.{T, eqb}
use borrow.Author.Tests.{ne_eqb}
use types.Run.{OneOf, hit, miss}
use denote.Enum.Declared.{tag_of}
use Rattle.rules.specs.Table.{opcode_of}
use Rattle.decode.specs.contracts.Op.{the_type}
use Rattle.decode.specs.declared.Op.{Op}
use Rattle.decode.specs.declared.Op.TheVariants as code
use Rattle.decode.specs.Ops.{op_of}

pub numbered : (op : Op) → tag_of the_type op ≡ opcode_of (op_of op)
numbered (code.Load order cell register) = refl
numbered (code.Store order cell value) = refl
numbered (code.StoreRegister order cell register) = refl
numbered (code.Rmw order cell register change failure) = refl
numbered (code.Fence order) = refl
numbered (code.UnsyncLoad cell register) = refl
numbered (code.WithMut cell register change) = refl
numbered code.Yield = refl
numbered (code.Join thread) = refl
numbered (code.Jump target) = refl
numbered (code.JumpIf target register a) = refl
numbered (code.JumpUnless target register a) = refl
numbered (code.Check register a) = refl
numbered code.Critical = refl
numbered code.ExploreState = refl
numbered code.SkipBranch = refl
numbered (code.Spurious register) = refl
numbered (code.PlainRead plain register) = refl
numbered (code.PlainWrite plain value) = refl

-- the places of all but these
abbrev pub rest : List ℕ → List ℕ → List ℕ
rest ks [] = []
rest ks (x ∷ xs) = cond (has_key ks x) (rest ks xs) (x ∷ rest ks xs)

abbrev pub all_but : List ℕ → List ℕ
all_but ks = rest ks (0 ∷ 1 ∷ 2 ∷ 3 ∷ 4 ∷ 5 ∷ 6 ∷ 7 ∷ 8 ∷ 9 ∷ 10 ∷ 11 ∷ 12 ∷ 13 ∷ 14 ∷ 15 ∷ 16 ∷ 17 ∷ 18 ∷ [])

module _ (ks : List ℕ) (op : Op) (p : OneOf ks (tag_of the_type op)) where
  pub by_number : OneOf ks (opcode_of (op_of op))
  by_number = subst (λ (n : ℕ). OneOf ks n) (numbered op) p

  pub no_number : (k : ℕ) → T (not (has_key ks k)) → false ≡ eqb (opcode_of (op_of op)) k
  no_number k h = sym (ne_eqb (opcode_of (op_of op)) k (λ e. miss ks k h (subst (λ (n : ℕ). OneOf ks n) e by_number)))

-- whether each of these keys that is one of the second is one of the third
abbrev pub within : List ℕ → List ℕ → List ℕ → Bool
within [] ls ms = true
within (k ∷ ks) ls ms = (not (has_key ls k) || has_key ms k) && within ks ls ms

narrow_at : (ls ms : List ℕ) (k x : ℕ) → T (not (has_key ls k) || has_key ms k) → x ≡ k → OneOf ls x → OneOf ms x
narrow_at ls ms k x h e l =
    subst (λ (n : ℕ). OneOf ms n) (sym e)
    (elim (or_yes (not (has_key ls k)) (has_key ms k) h) [
      | inl a ↦ absurd (miss ls k a (subst (λ (n : ℕ). OneOf ls n) e l))
      | inr b ↦ hit ms k b
    ])

pub narrow : (ks ls ms : List ℕ) (x : ℕ) → T (within ks ls ms) → OneOf ks x → OneOf ls x → OneOf ms x
narrow [] ls ms x h k l = absurd k
narrow (k ∷ []) ls ms x h e l = narrow_at ls ms k x (and_yes (not (has_key ls k) || has_key ms k) true h).0 e l
narrow (k ∷ k2 ∷ ks) ls ms x h (inl e) l =
    narrow_at ls ms k x (and_yes (not (has_key ls k) || has_key ms k) (within (k2 ∷ ks) ls ms) h).0 e l
narrow (k ∷ k2 ∷ ks) ls ms x h (inr r) l =
    narrow (k2 ∷ ks) ls ms x (and_yes (not (has_key ls k) || has_key ms k) (within (k2 ∷ ks) ls ms) h).1 r l
