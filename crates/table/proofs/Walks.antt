-- Laws for the loops over a table's counts and rows: what is left to be asked from place i on. Assumes nothing.
use Prim.Native.Nat.{ℕ, suc, ◌+◌, ◌-◌, ◌≤◌, ◌<◌}
use mathlib.Core.List.{List, [], ◌∷◌}
use mathlib.Core.Bool.{Bool, true, false, cond, not, ◌&&◌}
use mathlib.Core.Path.{◌≡◌, sym, ◌∙◌}
use native.Mathlib.Omega.{arith}
use native.Mathlib.Nat.{sub-zero}
use native.Mathlib.Numerals.{add-one}
use lib.ListN.{length, get_or, drop, drop_of_length-le}
use lib.Seq.{drop-cons}
use borrow.Author.Tests.{lt-ltb, le-ltb, not-false}
use Rattle.std.specs.Prelude.{Option, Some, None, unwrap_or, IfSome}
use lib.Dec.{ltb}
use Rattle.rules.specs.Table.{max_threads, header_bytes, counts_of, count_fine, counts_fine, first_not, first_bad, is_fine, op_at, rows_judged, bad_row, good, bad_header, judged, header_fine, Room, room_of}
use Rattle.table.proofs.Header.{counts-length, counts-at, header-long}

-- a search for the first that is not fine
module _ (fine : ℕ → Bool) (n i : ℕ) where
  left_one : i < n → first_not fine (n - i) i ≡ cond (fine i) (first_not fine (n - (i + 1)) (i + 1)) i
  unfolding first_not
  left_one h = let e : n - i ≡ suc (n - (i + 1)) = omega arith in rw e

  pub first_on : i < n → fine i ≡ true → first_not fine (n - (i + 1)) (i + 1) ≡ first_not fine (n - i) i
  first_on h e = rw (left_one h, e)

  pub first_found : i < n → fine i ≡ false → first_not fine (n - i) i ≡ i
  first_found h e = rw (left_one h, e)

  pub first-none : n ≤ i → i ≤ n → first_not fine (n - i) i ≡ n
  unfolding first_not
  first-none h k = let e : n - i ≡ 0 = omega arith in let d : i ≡ n = omega arith in rw (e, d)

-- the rows of one thread that are left at i
abbrev pub bad_left : List ℕ → ℕ → ℕ → ℕ → ℕ
bad_left t first c i = first_not (λ (j : ℕ). is_fine (op_at t (room_of t c j) (first + j))) (c - i) i

pub bad-all : (t : List ℕ) (first c : ℕ) → bad_left t first c 0 ≡ first_bad t first c
unfolding first_bad
bad-all t first c = rw sub-zero

-- the row at i, in the room that it has
pub fine-in : (t : List ℕ) {room : Room} {b : Bool} (first c i : ℕ) → room ≡ room_of t c i → b ≡ is_fine (op_at t room (first + i)) →
    is_fine (op_at t (room_of t c i) (first + i)) ≡ b
fine-in t first c i e f = rw (f, e)

-- the counts that are left at i
module _ {A : Type 0} (f : List ℕ → A) (t : List ℕ) (h : header_bytes ≤ length t) (i : ℕ) where
  pub counts-more : i < max_threads → f (drop i (counts_of t)) ≡ f (get_or t (2 + i) 0 ∷ drop (i + 1) (counts_of t))
  counts-more k =
      let l : i < length (counts_of t) = omega (arith, counts-length t h) in
      rw (add-one, drop-cons (counts_of t) i 0 l, counts-at t h i k)

  pub counts-done : max_threads ≤ i → f (drop i (counts_of t)) ≡ f []
  counts-done k =
      let l : length (counts_of t) ≤ i = omega (arith, counts-length t h) in
      rw (drop_of_length-le (counts_of t) l)

module _ (t : List ℕ) (h : header_bytes ≤ length t) (threads i : ℕ) (k : i < max_threads) where
  counts-one : counts_fine threads i (drop i (counts_of t)) ≡ count_fine threads i (get_or t (2 + i) 0) && counts_fine threads (i + 1) (drop (i + 1) (counts_of t))
  unfolding counts_fine
  counts-one = counts-more (counts_fine threads i) t h i k

  pub counts-on : count_fine threads i (get_or t (2 + i) 0) ≡ true →
      counts_fine threads (i + 1) (drop (i + 1) (counts_of t)) ≡ counts_fine threads i (drop i (counts_of t))
  counts-on e = rw (counts-one, e)

  pub counts_end : count_fine threads i (get_or t (2 + i) 0) ≡ false → counts_fine threads i (drop i (counts_of t)) ≡ false
  counts_end e = rw (counts-one, e)

pub counts-none : (t : List ℕ) (h : header_bytes ≤ length t) (threads i : ℕ) → max_threads ≤ i → counts_fine threads i (drop i (counts_of t)) ≡ true
unfolding counts_fine
counts-none t h threads i k = counts-done (counts_fine threads i) t h i k

-- the threads that are left at i, of which the first row has the number n
module _ (t : List ℕ) (h : header_bytes ≤ length t) (i n c : ℕ) (k : i < max_threads) (e : c ≡ get_or t (2 + i) 0) where
  threads-one : rows_judged t i n (drop i (counts_of t))
      ≡ cond (ltb (first_bad t n c) c) (bad_row i (first_bad t n c)) (rows_judged t (i + 1) (n + c) (drop (i + 1) (counts_of t)))
  unfolding rows_judged
  threads-one = rw e (counts-more (rows_judged t i n) t h i k)

  threads-on : {b : ℕ} → b ≡ first_bad t n c → c ≤ b →
      rows_judged t (i + 1) (n + c) (drop (i + 1) (counts_of t)) ≡ rows_judged t i n (drop i (counts_of t))
  threads-on p l = rw (threads-one, ← p, le-ltb _ c l)

  threads-bad : {b : ℕ} → b ≡ first_bad t n c → b < c → bad_row i b ≡ rows_judged t i n (drop i (counts_of t))
  threads-bad p l = rw (threads-one, ← p, lt-ltb _ c l)

  -- by what the search for a bad row answered
  pub threads_in : {r : Option ℕ} {b : ℕ} → r ≡ Some b → unwrap_or r c ≡ first_bad t n c → IfSome r (λ (row : ℕ). row < c) →
      bad_row i b ≡ rows_judged t i n (drop i (counts_of t))
  threads_in e p l = threads-bad (rw e at p) (rw e at l)

  pub threads-past : {r : Option ℕ} → r ≡ None → unwrap_or r c ≡ first_bad t n c →
      rows_judged t (i + 1) (n + c) (drop (i + 1) (counts_of t)) ≡ rows_judged t i n (drop i (counts_of t))
  threads-past e p = threads-on (rw e at p) (omega arith)

pub threads-none : (t : List ℕ) (h : header_bytes ≤ length t) (i n : ℕ) → max_threads ≤ i → rows_judged t i n (drop i (counts_of t)) ≡ good
unfolding rows_judged
threads-none t h i n k = counts-done (rows_judged t i n) t h i k

-- the whole: header first
module _ (t : List ℕ) where
  pub judged-bad : header_fine t ≡ false → bad_header ≡ judged t
  unfolding judged
  judged-bad e = rw e

  pub judged-rows : header_fine t ≡ true → rows_judged t 0 0 (counts_of t) ≡ judged t
  unfolding judged
  judged-rows e = rw e

  -- where the header was asked for
  module _ {b : Bool} (is : b ≡ header_fine t) (k : not b ≡ false) where
    pub header-is : header_fine t ≡ true
    header-is = sym is ∙ not-false b k

    pub header_held : header_bytes ≤ length t
    header_held = header-long t header-is
