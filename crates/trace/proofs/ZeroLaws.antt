-- The laws of a buffer that is cleared whole. Assumes nothing.
--     zero-at         each of its bytes is zero, and so is what stands past them
use Prim.Native.Nat.{ℕ}
use mathlib.Core.Bool.{Bool, true, false}
use mathlib.Core.List.{List}
use mathlib.Core.Path.{◌≡◌, refl, ap, ◌∙◌}
use native.Mathlib.Omega.{arith}
use lib.Dec.{ltb}
use lib.ListN.{length, get_or, get_or-replicate, get_or-eq_default}
use borrow.Author.Tests.{ltb-true, ltb-false}
use Rattle.trace.specs.Entries.{Zeros}

pub zero-at : (entry exit : List ℕ) → Zeros entry exit → (i : ℕ) → get_or exit i 0 ≡ 0
zero-at entry exit z i = go (ltb i (length exit)) refl
  where
    go : (b : Bool) → ltb i (length exit) ≡ b → get_or exit i 0 ≡ 0
    go true h = ap (λ (bytes : List ℕ). get_or bytes i 0) z.is ∙ get_or-replicate (length exit) i 0 0 (ltb-true i (length exit) h)
    go false h = get_or-eq_default exit 0 (omega (arith, ltb-false i (length exit) h))
