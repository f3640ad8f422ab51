-- What a table's shape says of its rows. Assumes nothing.
--     shape-cells, shape-threads, shape-rows, shape-first, shape-plains      its numbers by place
use Prim.Native.Nat.{ℕ, suc, ◌+◌, ◌≤◌, ◌<◌}
use mathlib.Core.List.{List, [], ◌∷◌, ◌++◌}
use mathlib.Core.Bool.{Bool, cond}
use mathlib.Core.Path.{◌≡◌, refl, ap, ◌∙◌}
use native.Mathlib.Omega.{arith}
use borrow.Author.Tests.{le-leb}
use lib.ListN.{length, get_or, replicate, get_or-append}
use lib.Seq.{get_or-append-add}
use Rattle.rules.specs.Table.{shape_of, header_bytes, threads_of, cells_of, plains_of, counts_of, first_rows}
use Rattle.table.proofs.Header.{counts-length}

-- a first row for each count
length-first : (n : ℕ) (counts : List ℕ) → length (first_rows n counts) ≡ length counts
unfolding first_rows
length-first n [] = refl
length-first n (c ∷ counts) = ap suc (length-first (n + c) counts)

module _ (table : List ℕ) (header : header_bytes ≤ length table) where
  -- the first rows, and the plain cells
  abbrev behind : List ℕ
  behind = first_rows 0 (counts_of table) ++ (plains_of table ∷ [])

  abbrev shape : List ℕ
  shape = threads_of table ∷ cells_of table ∷ (counts_of table ++ behind)

  is-shape : shape_of table ≡ shape
  unfolding shape_of
  is-shape = ap (λ (b : Bool). cond b shape (replicate 13 0)) (le-leb header_bytes (length table) header)

  pub shape-threads : get_or (shape_of table) 0 0 ≡ threads_of table
  shape-threads = ap (λ (l : List ℕ). get_or l 0 0) is-shape

  pub shape-cells : get_or (shape_of table) 1 0 ≡ cells_of table
  shape-cells = ap (λ (l : List ℕ). get_or l 1 0) is-shape

  pub shape-rows : (t : ℕ) → t < 5 → get_or (shape_of table) (2 + t) 0 ≡ get_or (counts_of table) t 0
  shape-rows t h =
      ap (λ (l : List ℕ). get_or l (2 + t) 0) is-shape
      ∙ get_or-append-add (threads_of table ∷ cells_of table ∷ []) (counts_of table ++ behind) t 0
      ∙ get_or-append (counts_of table) behind 0 t (omega (arith, h, counts-length table header))

  -- past the counts
  shape_behind : (t : ℕ) → get_or (shape_of table) (7 + t) 0 ≡ get_or behind t 0
  shape_behind t =
      let e : 7 + t ≡ 2 + (length (counts_of table) + t) = omega (arith, counts-length table header) in
      ap (λ (l : List ℕ). get_or l (7 + t) 0) is-shape
      ∙ ap (λ (k : ℕ). get_or shape k 0) e
      ∙ get_or-append-add (threads_of table ∷ cells_of table ∷ []) (counts_of table ++ behind) (length (counts_of table) + t) 0
      ∙ get_or-append-add (counts_of table) behind t 0

  first-length : length (first_rows 0 (counts_of table)) ≡ 5
  first-length = length-first 0 (counts_of table) ∙ counts-length table header

  pub shape-first : (t : ℕ) → t < 5 → get_or (shape_of table) (7 + t) 0 ≡ get_or (first_rows 0 (counts_of table)) t 0
  shape-first t h =
      shape_behind t ∙ get_or-append (first_rows 0 (counts_of table)) (plains_of table ∷ []) 0 t (omega (arith, h, first-length))

  pub shape-plains : get_or (shape_of table) 12 0 ≡ plains_of table
  shape-plains =
      shape_behind 5
      ∙ ap (λ (k : ℕ). get_or behind k 0) (let e : 5 ≡ length (first_rows 0 (counts_of table)) + 0 = omega (arith, first-length) in e)
      ∙ get_or-append-add (first_rows 0 (counts_of table)) (plains_of table ∷ []) 0 0
