-- The laws of fences. Assumes nothing.
--     stores-..                   the walk along a cell's stores: it starts, passes a store that is seen or not, ends
--     cells-..                    the walk along the cells
--     then-released, then-both    what follows an acquire fence, and what follows both
--     fence-as, fence-none        the fence of an order that a match found, and of one that is none
use Prim.Native.Nat.{ℕ, suc, ◌+◌, ◌-◌, ◌≤◌, ◌<◌}
use mathlib.Core.List.{List}
use mathlib.Core.Bool.{Bool, true, false, cond}
use mathlib.Core.Path.{◌≡◌, refl, ap, sym, ◌∙◌}
use mathlib.Core.Logic.{◌≢◌}
use native.Mathlib.Omega.{arith}
use borrow.Author.Tests.{ne_eqb}
use Rattle.rules.specs.Cell.{kth_oldest, seen_by, load_synced, acquired_from, cell_acquired, cells_acquired, fence_acquired, fence_released, fence_seq_cst, fenced, live_stores, join_into}
use Rattle.rules.specs.State.{Clocks, Marks, Numbers, marks_of, vector, with_vector, number, count, store_at, causality, released, seq_cst, sync}

-- of n turns, k are done
one_left : (n k : ℕ) → k < n → n - k ≡ suc (n - (k + 1))
one_left n k h = omega arith

none_left : (n k : ℕ) → n ≤ k → n - k ≡ 0
none_left n k h = omega arith

module _ (clocks : Clocks) (rows : List (List ℕ)) (cnt t c : ℕ) where
  pub stores-start : (live : ℕ) → live ≡ live_stores cnt → acquired_from clocks rows cnt t c (live - 0) 0 ≡ cell_acquired clocks rows cnt t c
  unfolding cell_acquired
  stores-start live e = let z : live - 0 ≡ live = omega arith in rw (z, e)

  pub stores-end : (live k : ℕ) → live ≤ k → acquired_from clocks rows cnt t c (live - k) k ≡ clocks
  unfolding acquired_from
  stores-end live k h = rw (none_left live k h)

  -- the k-th store, with n more behind it
  acquired-on : (n k : ℕ) →
      acquired_from clocks rows cnt t c (suc n) k
      ≡ acquired_from (cond (seen_by clocks rows t (kth_oldest cnt k)) (join_into clocks (causality t) (sync (store_at c (kth_oldest cnt k)))) clocks) rows cnt t c n (k + 1)
  unfolding acquired_from
  acquired-on n k = refl

  module _ (live k slot : ℕ) (more : k < live) (at : slot ≡ kth_oldest cnt k) (b : Bool) (asked : b ≡ seen_by clocks rows t slot) where
    here : seen_by clocks rows t (kth_oldest cnt k) ≡ b
    here = ap (seen_by clocks rows t) (sym at) ∙ sym asked

    pub stores-seen : b ≡ true → (left : Clocks) → left ≡ load_synced clocks t (store_at c slot) 2 →
        acquired_from left rows cnt t c (live - (k + 1)) (k + 1) ≡ acquired_from clocks rows cnt t c (live - k) k
    unfolding load_synced
    stores-seen f left e = rw (one_left live k more, acquired-on, here, f, ← at, e)

    pub stores-unseen : b ≡ false → acquired_from clocks rows cnt t c (live - (k + 1)) (k + 1) ≡ acquired_from clocks rows cnt t c (live - k) k
    stores-unseen f = rw (one_left live k more, acquired-on, here, f)

module _ (clocks : Clocks) (marks : Marks) (numbers : Numbers) (t : ℕ) where
  pub cells-start : (n : ℕ) → cells_acquired clocks marks numbers t (n - 0) 0 ≡ fence_acquired clocks marks numbers t n
  unfolding fence_acquired
  cells-start n = let z : n - 0 ≡ n = omega arith in rw z

  pub cells-on : (n c : ℕ) → c < n → (left : Clocks) → left ≡ cell_acquired clocks (marks_of marks c) (number numbers (count c)) t c →
      cells_acquired left marks numbers t (n - (c + 1)) (c + 1) ≡ cells_acquired clocks marks numbers t (n - c) c
  unfolding cells_acquired
  cells-on n c h left e = rw (one_left n c h, e)

  pub cells-end : (n c : ℕ) → n ≤ c → cells_acquired clocks marks numbers t (n - c) c ≡ clocks
  unfolding cells_acquired
  cells-end n c h = rw (none_left n c h)

-- a fence that goes on where another has left the clocks as they are to be
module _ (clocks before : Clocks) (t : ℕ) (so : before ≡ clocks) where
  pub then-released : (left : Clocks) → left ≡ with_vector before (released t) (vector before (causality t)) → left ≡ fence_released clocks t
  unfolding fence_released
  then-released left e = rw (← so) e

  pub then-both : (first left : Clocks) → first ≡ join_into before (causality t) seq_cst → left ≡ join_into first seq_cst (causality t) → left ≡ fence_seq_cst clocks t
  unfolding fence_seq_cst
  then-both first left e f = rw (← so, ← e) f

module _ (clocks : Clocks) (marks : Marks) (numbers : Numbers) (t cells : ℕ) where
  pub fence-as : (o k : ℕ) (left : Clocks) → o ≡ k → left ≡ fenced clocks marks numbers t cells k → left ≡ fenced clocks marks numbers t cells o
  fence-as o k left e f = f ∙ ap (fenced clocks marks numbers t cells) (sym e)

  pub fence-none : (o : ℕ) → (o ≢ 1) → (o ≢ 2) → (o ≢ 3) → (o ≢ 4) → clocks ≡ fenced clocks marks numbers t cells o
  unfolding fenced
  fence-none o a b c d = rw (ne_eqb o 1 a, ne_eqb o 2 b, ne_eqb o 3 c, ne_eqb o 4 d)
