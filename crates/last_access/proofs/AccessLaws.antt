-- The laws of the steps that access a cell. Assumes nothing.
--     kind-as                          a kind that was taken apart
--     access-none, access-made         a step that names no row, and one that does
--     last_on, last_found, last-none   the walk down to the last
use Prim.Native.Nat.{ℕ, suc, ◌-◌, ◌≤◌, ◌<◌}
use mathlib.Core.Bool.{Bool, true, false, cond, ◌&&◌}
use mathlib.Core.Path.{◌≡◌, ap, sym, ◌∙◌}
use Rattle.std.specs.Prelude.{Option, Some, None}
use native.Mathlib.Omega.{arith}
use lib.Dec.{eqb}
use Rattle.std.specs.Option.{option_eq}
use Rattle.rules.specs.Event.{Entry}
use Rattle.rules.specs.Table.{Op, Decoded, refused, decoded}
use Rattle.last_access.specs.Access.{cell_in, accesses, is_access_by, last_of}
use Rattle.last_access.specs.declared.AccessKind.{AccessKind}

pub kind-as : {k m : AccessKind} (v : ℕ) (op : Op) {b : Bool} → k ≡ m → b ≡ accesses m v op → b ≡ accesses k v op
kind-as v op e h = h ∙ sym (ap (λ (x : AccessKind). accesses x v op) e)

module _ (thread cell : ℕ) (kind : AccessKind) (e : Entry) {x : Decoded Op} where
  pub access-none : x ≡ refused → false ≡ is_access_by thread cell kind e x
  access-none p = rw p

  pub access-made : {op : Op} {t v : ℕ} {c : Option ℕ} {b m : Bool} → x ≡ decoded op → t ≡ e.thread → c ≡ cell_in op → m ≡ option_eq eqb c (Some cell) → v ≡ e.value →
      b ≡ accesses kind v op → eqb t thread && m && b ≡ is_access_by thread cell kind e x
  access-made p q s m f h = rw (p, h, q, m, s, f)

module _ (test : ℕ → Bool) (i : ℕ) where
  last-next : {j : ℕ} → i ≡ suc j → last_of test i ≡ cond (test j) (Some j) (last_of test j)
  unfolding last_of
  last-next e = rw e

  last_one : 0 < i → last_of test i ≡ cond (test (i - 1)) (Some (i - 1)) (last_of test (i - 1))
  last_one h = last-next (omega arith)

  pub last_on : 0 < i → test (i - 1) ≡ false → last_of test (i - 1) ≡ last_of test i
  last_on h e = rw (last_one h, e)

  pub last_found : 0 < i → test (i - 1) ≡ true → Some (i - 1) ≡ last_of test i
  last_found h e = rw (last_one h, e)

  pub last-none : i ≤ 0 → None ≡ last_of test i
  unfolding last_of
  last-none h = let e : i ≡ 0 = omega arith in rw e
