-- The parts of a text one by one. Assumes nothing.
--     values-.., rows-.., threads-..    the next one, and none left
--     plains-..                         the line of the plain cells
--     shape-count, shape-first          a thread's rows, from the table's shape
--     text-whole                        the whole text
--     cleared                           zeros behind a place
use Prim.Native.Nat.{ℕ, zero, suc, ◌+◌, ◌-◌, ◌≤◌, ◌<◌}
use mathlib.Core.List.{List, [], ◌∷◌, ◌++◌, append_assoc, append-nil}
use mathlib.Core.Bool.{Bool, true, false}
use mathlib.Core.Path.{◌≡◌, refl, ap, sym, ◌∙◌}
use native.Mathlib.Omega.{arith}
use native.Mathlib.Numerals.{add-one}
use borrow.Author.Tests.{le-leb, lt-leb}
use lib.Dec.{leb}
use borrow.Rule.Slice.PartMut.{post_of, put_mid}
use lib.ListN.{length, get_or, set, take, drop, drop_of_length-le, replicate, length-set, length-drop, get_or-append, replicate-append-replicate}
use lib.Seq.{length-take-le, take-suc-set, take_all, get_or-append-add}
use Rattle.rules.specs.Table.{row_at, cells_of, plains_of, values_of, threads_of, counts_of, first_rows, shape_of, start_value, header_bytes}
use Rattle.rules.specs.Token.{bytes_of, space}
use Rattle.rules.specs.Text.{filled}
use Rattle.rules.specs.Writer.{shown, row_shown, rows_shown, threads_shown, values_shown, plains_shown, condition_shown, written_text}

module _ (t : List ℕ) (left i : ℕ) where
  pub values-out : left ≤ 0 → values_shown t left i ≡ []
  unfolding values_shown
  values-out h = let e : left ≡ 0 = omega arith in ap (λ (n : ℕ). values_shown t n i) e

  pub values-next : 0 < left → values_shown t left i ≡ (space ∷ []) ++ (shown (start_value t i) ++ values_shown t (left - 1) (i + 1))
  unfolding values_shown
  values-next h = let e : left ≡ suc (left - 1) = omega arith in ap (λ (n : ℕ). values_shown t n i) e

  pub rows_out : left ≤ 0 → rows_shown t left i ≡ []
  unfolding rows_shown
  rows_out h = let e : left ≡ 0 = omega arith in ap (λ (n : ℕ). rows_shown t n i) e

  rows-one : 0 < left → rows_shown t left i ≡ row_shown (row_at t (values_of t) i) ++ rows_shown t (left - 1) (i + 1)
  unfolding rows_shown
  rows-one h = let e : left ≡ suc (left - 1) = omega arith in ap (λ (n : ℕ). rows_shown t n i) e

  pub rows_next : 0 < left → (values : ℕ) → values ≡ values_of t → rows_shown t left i ≡ row_shown (row_at t values i) ++ rows_shown t (left - 1) (i + 1)
  rows_next h values e = rows-one h ∙ ap (λ (n : ℕ). row_shown (row_at t n i) ++ rows_shown t (left - 1) (i + 1)) (sym e)

  pub threads-out : left ≤ 0 → threads_shown t left i ≡ []
  unfolding threads_shown
  threads-out h = let e : left ≡ 0 = omega arith in ap (λ (n : ℕ). threads_shown t n i) e

  threads-one : 0 < left → threads_shown t left i ≡ bytes_of "thread\n" ++ (rows_shown t (get_or (counts_of t) i 0) (get_or (first_rows 0 (counts_of t)) i 0) ++ threads_shown t (left - 1) (i + 1))
  unfolding threads_shown bytes_of
  threads-one h = let e : left ≡ suc (left - 1) = omega arith in ap (λ (n : ℕ). threads_shown t n i) e

  pub threads-next : 0 < left → (first count : ℕ) → first ≡ get_or (first_rows 0 (counts_of t)) i 0 → count ≡ get_or (counts_of t) i 0
      → threads_shown t left i ≡ bytes_of "thread\n" ++ (rows_shown t count first ++ threads_shown t (left - 1) (i + 1))
  threads-next h first count f c = rw (f, c) (threads-one h)

-- a first row for each thread
first-rows : (n : ℕ) (cs : List ℕ) → length (first_rows n cs) ≡ length cs
unfolding first_rows
first-rows n [] = refl
first-rows n (c ∷ cs) = ap suc (first-rows (n + c) cs)

module _ (t : List ℕ) (h : header_bytes ≤ length t) (thread : ℕ) (k : thread < 5) where
  five : length (counts_of t) ≡ 5
  unfolding counts_of
  five = length-take-le 5 (drop 2 t) (omega (arith, length-drop 2 t))

  -- behind the row counts
  abbrev behind : List ℕ
  behind = first_rows 0 (counts_of t) ++ (plains_of t ∷ [])

  shape_is : shape_of t ≡ threads_of t ∷ cells_of t ∷ (counts_of t ++ behind)
  unfolding shape_of
  shape_is = rw (le-leb 8 (length t) h)

  pub shape-count : (shape : List ℕ) → shape ≡ shape_of t → get_or shape (2 + thread) 0 ≡ get_or (counts_of t) thread 0
  shape-count shape e =
      let s : 2 + thread ≡ suc (suc thread) = omega arith in
      ap (λ (l : List ℕ). get_or l (2 + thread) 0) (e ∙ shape_is)
      ∙ ap (λ (n : ℕ). get_or (threads_of t ∷ cells_of t ∷ (counts_of t ++ behind)) n 0) s
      ∙ get_or-append (counts_of t) behind 0 thread (omega (arith, five))

  pub shape-first : (shape : List ℕ) → shape ≡ shape_of t → get_or shape (7 + thread) 0 ≡ get_or (first_rows 0 (counts_of t)) thread 0
  shape-first shape e =
      let s : 7 + thread ≡ suc (suc (length (counts_of t) + thread)) = omega (arith, five) in
      ap (λ (l : List ℕ). get_or l (7 + thread) 0) (e ∙ shape_is)
      ∙ ap (λ (n : ℕ). get_or (threads_of t ∷ cells_of t ∷ (counts_of t ++ behind)) n 0) s
      ∙ get_or-append-add (counts_of t) behind thread 0
      ∙ get_or-append (first_rows 0 (counts_of t)) (plains_of t ∷ []) 0 thread (omega (arith, five, first-rows 0 (counts_of t)))

-- the line of the plain cells
module _ (t : List ℕ) (plains : ℕ) (e : plains ≡ plains_of t) where
  abbrev plainly : Bool → List ℕ
  plainly some =
      elim some [ true ↦ bytes_of "plain" ++ (values_shown t (plains_of t) (cells_of t) ++ (10 ∷ [])) | false ↦ [] ]

  plains-is : (some : Bool) → leb 1 (plains_of t) ≡ some → plains_shown t ≡ plainly some
  unfolding plains_shown
  plains-is some s = ap plainly s

  pub plains-none : plains ≡ 0 → plains_shown t ≡ []
  plains-none z = plains-is false (lt-leb 1 (plains_of t) (omega arith))

  pub plains-some : (plains ≡ 0 → ⊥) → (cells : ℕ) → cells ≡ cells_of t → plains_shown t ≡ bytes_of "plain" ++ (values_shown t plains cells ++ (10 ∷ []))
  plains-some n cells c =
      plains-is true (le-leb 1 (plains_of t) (pos (plains_of t) (λ z. n (e ∙ z))))
      ∙ (rw (e, c))
    where
      pos : (k : ℕ) → (k ≡ 0 → ⊥) → 1 ≤ k
      pos zero f = absurd (f refl)
      pos (suc k) f = omega arith

pub text-whole : (t c : List ℕ) (cells : ℕ) → cells ≡ cells_of t
    → bytes_of "cells" ++ (values_shown t cells 0 ++ ((10 ∷ []) ++ (plains_shown t ++ (threads_shown t (threads_of t) 0 ++ condition_shown c)))) ≡ written_text t c
unfolding written_text
text-whole t c cells e = rw e

-- Zeros

pub cleared : (l new : List ℕ) (from : ℕ) → from ≤ length l → new ≡ replicate (length (take (length l - from) (drop from l))) 0
    → put_mid from (length l - from) l new ≡ filled (length l) (take from l)
cleared l new from h f =
    let over : length (take (length l - from) (drop from l)) ≡ length l - from =
    length-take-le (length l - from) (drop from l) (omega (arith, length-drop from l)) in
    let fits : length (take from l) ≡ from = length-take-le from l h in
    let none : post_of from (length l - from) l ≡ [] =
    drop_of_length-le (drop from l) {i = length l - from} (omega (arith, length-drop from l)) in
    ap (λ (x : List ℕ). take from l ++ (x ++ post_of from (length l - from) l)) (f ∙ ap (λ (n : ℕ). replicate n 0) (over ∙ ap (λ (n : ℕ). length l - n) (sym fits)))
    ∙ ap (λ (x : List ℕ). take from l ++ (replicate (length l - length (take from l)) 0 ++ x)) none
    ∙ ap (λ (x : List ℕ). take from l ++ x) (append-nil (replicate (length l - length (take from l)) 0))
