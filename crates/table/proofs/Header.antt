-- Laws for the header: its counts one by one, its shape, and the tests that it passes. Assumes nothing.
use Prim.Native.Nat.{ℕ, suc, ◌+◌, ◌≤◌, ◌<◌}
use mathlib.Core.List.{List, [], ◌∷◌}
use mathlib.Core.Bool.{Bool, true, false, ◌&&◌, and-eq-true_iff}
use mathlib.Core.Path.{◌≡◌}
use native.Mathlib.Omega.{arith}
use native.Mathlib.Nat.{zero-add}
use lib.Dec.{leb, eqb}
use lib.ListN.{length, get_or, take, drop, replicate, length-take, length-drop}
use lib.Seq.{drop-cons, get_or-take, get_or-drop}
use borrow.Author.Tests.{le-leb, lt-leb, leb-true}
use Rattle.rules.specs.Table.{max_threads, max_cells, max_plains, header_bytes, size_of, threads_of, cells_of, plains_of, values_of, counts_of, counts_fine, total, first_rows, shape_of, header_fine}

module _ (t : List ℕ) where
  -- no header: a shape of zeros, and a bad one
  pub shape-short : length t < header_bytes → replicate 13 0 ≡ shape_of t
  unfolding shape_of
  shape-short h = rw (lt-leb header_bytes (length t) h)

  pub header-short : length t < header_bytes → false ≡ header_fine t
  unfolding header_fine
  header-short h = rw (lt-leb header_bytes (length t) h)

  both : (a b : Bool) → a && b ≡ true → a ≡ true
  both a b e = ((and-eq-true_iff a b).0 e).0

  pub header-long : header_fine t ≡ true → header_bytes ≤ length t
  unfolding header_fine
  header-long e = leb-true header_bytes (length t) (both _ _ (both _ _ (both _ _ (both _ _ (both _ _ e)))))

module _ (t : List ℕ) (h : header_bytes ≤ length t) where
  -- the counts are as many as threads can be, and stand from byte 2 on
  pub counts-length : length (counts_of t) ≡ max_threads
  unfolding counts_of
  counts-length = simp (length-take, length-drop) (omega arith)

  pub counts-at : (i : ℕ) → i < max_threads → get_or (counts_of t) i 0 ≡ get_or t (2 + i) 0
  unfolding counts_of
  counts-at i k = rw (get_or-take, get_or-drop)

  one-more : (n i : ℕ) → i < header_bytes → take (suc n) (drop i t) ≡ get_or t i 0 ∷ take n (drop (suc i) t)
  one-more n i k = rw (drop-cons t i 0 (omega arith))

  pub counts-are : counts_of t ≡ get_or t 2 0 ∷ get_or t 3 0 ∷ get_or t 4 0 ∷ get_or t 5 0 ∷ get_or t 6 0 ∷ []
  unfolding counts_of
  counts-are =
      rw (one-more 4 2 (omega arith), one-more 3 3 (omega arith), one-more 2 4 (omega arith), one-more 1 5 (omega arith), one-more 0 6 (omega arith))

  -- the shape, number by number
  shape_is :
      get_or t 0 0 ∷ get_or t 1 0 ∷ get_or t 2 0 ∷ get_or t 3 0 ∷ get_or t 4 0 ∷ get_or t 5 0 ∷ get_or t 6 0
      ∷ 0 ∷ get_or t 2 0 ∷ (get_or t 2 0 + get_or t 3 0) ∷ (get_or t 2 0 + get_or t 3 0 + get_or t 4 0) ∷ (get_or t 2 0 + get_or t 3 0 + get_or t 4 0 + get_or t 5 0) ∷ get_or t 7 0 ∷ [] ≡ shape_of t
  unfolding shape_of first_rows
  shape_is = rw (le-leb header_bytes (length t) h, counts-are, zero-add)

  pub shape-made : {threads cells n0 n1 n2 n3 n4 plains : ℕ} →
      threads ≡ get_or t 0 0 → cells ≡ get_or t 1 0 →
      n0 ≡ get_or t 2 0 → n1 ≡ get_or t 3 0 → n2 ≡ get_or t 4 0 → n3 ≡ get_or t 5 0 → n4 ≡ get_or t 6 0 → plains ≡ get_or t 7 0 →
      threads ∷ cells ∷ n0 ∷ n1 ∷ n2 ∷ n3 ∷ n4 ∷ 0 ∷ n0 ∷ (n0 + n1) ∷ (n0 + n1 + n2) ∷ (n0 + n1 + n2 + n3) ∷ plains ∷ [] ≡ shape_of t
  shape-made p q e0 e1 e2 e3 e4 e5 = rw (p, q, e0, e1, e2, e3, e4, e5) shape_is

  pub rows_all : get_or (shape_of t) 6 0 + get_or (shape_of t) 11 0 ≡ total (counts_of t)
  unfolding total
  rows_all = rw (← shape_is, counts-are) (omega arith)

  header_is :
      (leb 1 (threads_of t) && leb (threads_of t) max_threads)
      && (leb 1 (cells_of t) && leb (cells_of t) max_cells)
      && counts_fine (threads_of t) 0 (counts_of t)
      && leb (plains_of t) max_plains
      && eqb (length t) (size_of (values_of t) (get_or (shape_of t) 6 0 + get_or (shape_of t) 11 0)) ≡ header_fine t
  unfolding header_fine
  header_is = rw (le-leb header_bytes (length t) h, rows_all)

  pub header_made : {threads cells plains last before : ℕ} {fine : Bool} {shape : List ℕ} →
      threads ≡ threads_of t → cells ≡ cells_of t → plains ≡ plains_of t → shape ≡ shape_of t →
      last ≡ get_or shape 6 0 → before ≡ get_or shape 11 0 → fine ≡ counts_fine threads 0 (counts_of t) →
      (leb 1 threads && leb threads max_threads)
      && (leb 1 cells && leb cells max_cells)
      && fine
      && leb plains max_plains
      && eqb (length t) (size_of (cells + plains) (last + before)) ≡ header_fine t
  header_made p q r s e f k = rw (k, p, q, r, e, f, s) header_is
