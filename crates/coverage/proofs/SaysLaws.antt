-- The warnings of old stores, cell by cell: what is left to be put at cell i. Assumes nothing.
--     old-on, old-none     one turn of that loop, and its end
use Prim.Native.Nat.{ℕ, suc, ◌+◌, ◌-◌, ◌≤◌, ◌<◌}
use mathlib.Core.List.{List}
use mathlib.Core.Path.{◌≡◌}
use native.Mathlib.Omega.{arith}
use Rattle.rules.specs.Table.{max_cells}
use Rattle.page.specs.Pages.{Page}
use Rattle.coverage.specs.Says.{put_stores, put_old_stores}

module _ (t : List ℕ) (i : ℕ) (l whole : Page) (left : put_old_stores l t (max_cells - i) i ≡ whole) where
  pub old-on : (m : Page) → i < max_cells → m ≡ put_stores l t i → put_old_stores m t (max_cells - (i + 1)) (i + 1) ≡ whole
  unfolding put_old_stores
  old-on m h e = let n : max_cells - i ≡ suc (max_cells - (i + 1)) = omega arith in rw e (rw n at left)

  pub old-none : max_cells ≤ i → l ≡ whole
  unfolding put_old_stores
  old-none h = let n : max_cells - i ≡ 0 = omega arith in rw n at left
