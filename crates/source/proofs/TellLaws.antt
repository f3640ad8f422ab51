-- The first byte tested. Assumes nothing.
use Prim.Native.Nat.{ℕ}
use mathlib.Core.List.{List, [], ◌∷◌}
use mathlib.Core.Bool.{false, ◌&&◌}
use mathlib.Core.Path.{◌≡◌, refl}
use native.Mathlib.Omega.{arith}
use lib.Dec.{leb}
use lib.ListN.{length, get_or}
use Rattle.rules.specs.Table.{max_threads}
use Rattle.source.specs.Told.{holds_table}

pub tell_none : (bytes : List ℕ) → length bytes ≡ 0 → false ≡ holds_table bytes
tell_none [] e = refl
tell_none (b ∷ bs) e = absurd (omega arith)

pub tell-first : (bytes : List ℕ) (first : ℕ) → (length bytes ≡ 0 → ⊥) → first ≡ get_or bytes 0 0 → (leb 1 first && leb first max_threads) ≡ holds_table bytes
tell-first [] first n e = absurd (n refl)
tell-first (b ∷ bs) first n e = rw e
