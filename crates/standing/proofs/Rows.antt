-- The rows of an accepted table: each says something, and what it names is there. Assumes nothing.
--     accepted-row    of every row of every thread
use Prim.Native.Nat.{ℕ, zero, suc, ◌+◌, ◌≤◌, ◌<◌}
use mathlib.Core.List.{List, [], ◌∷◌}
use mathlib.Core.Bool.{Bool, true, false, cond, false≢true}
use mathlib.Core.Path.{◌≡◌, refl, ap, sym, ◌∙◌}
use native.Mathlib.Omega.{arith}
use native.Mathlib.Decide.{ℕ_discrete}
use lib.Dec.{ltb}
use lib.ListN.{get_or}
use borrow.Author.Tests.{ltb-false}
use Rattle.rules.specs.Table.{Op, Room, Decoded, refused, decoded, op_at, room_of, is_fine, first_not, first_bad, rows_judged, first_rows, Judged, good, bad_row, judged, counts_of}
use Rattle.rules.specs.Machine.{Program, row_count, row_of}
use Rattle.rules.proofs.MeasureRows.{Names, RowNames, is-named, op-names}
use Rattle.rules.proofs.MeasureAccepted.{good-header}

-- a search that goes past n finds the n rows fine
all-fine : (fine : ℕ → Bool) (m n i : ℕ) → i + n ≡ m → ltb (first_not fine n i) m ≡ false → (k : ℕ) → i ≤ k → k < m → fine k ≡ true
unfolding first_not
all-fine fine m zero i s e k h l = absurd (omega arith)
all-fine fine m (suc n) i s e k h l = by (fine i) refl e (λ f d. all-fine fine m n (i + 1) (omega arith) f k d l)
  where
    by : (b : Bool) → fine i ≡ b → ltb (cond b (first_not fine n (i + 1)) i) m ≡ false →
        (ltb (first_not fine n (i + 1)) m ≡ false → i + 1 ≤ k → fine k ≡ true) → fine k ≡ true
    by true f e more = elim (ℕ_discrete i k) [ yes q ↦ ap fine (sym q) ∙ f | no d ↦ more e (omega arith) ]
    by false f e more = absurd (omega (arith, ltb-false))

-- the counts of the threads from some thread on, whose rows begin at this number
module _ (t : List ℕ) where
  first_good : (b : Bool) (x k : ℕ) (more : Judged) → cond b (bad_row x k) more ≡ good → (b ≡ false) × (more ≡ good)
  first_good true x k more e = (cc, cc)
  first_good false x k more e = (refl, e)

  rows-fine : (cs : List ℕ) (thread first : ℕ) → rows_judged t thread first cs ≡ good → (i k : ℕ) → k < get_or cs i 0 →
      is_fine (op_at t (room_of t (get_or cs i 0) k) (get_or (first_rows first cs) i 0 + k)) ≡ true
  unfolding rows_judged first_rows first_bad
  rows-fine [] thread first e i k h = absurd (omega arith)
  rows-fine (c ∷ cs) thread first e zero k h =
      let f = first_good _ thread _ _ e in
      all-fine (λ (i : ℕ). is_fine (op_at t (room_of t c i) (first + i))) c c 0 (omega arith) f.0 k (omega arith) h
  rows-fine (c ∷ cs) thread first e (suc i) k h =
      let bad = first_bad t first c in
      rows-fine cs (thread + 1) (first + c) (first_good (ltb bad c) thread bad _ e).1 i k h

-- a row that is fine says something, and what it names is there
says : (room : Room) (d : Decoded Op) → is_fine d ≡ true → RowNames room d →
    (op : Op) × (d ≡ decoded op) × Names room op
says room refused e h = absurd (false≢true e)
says room (decoded op) e h = (op, refl, is-named room op h)

module _ (p : Program) (accepted : judged p.table ≡ good) where
  all-good : rows_judged p.table 0 0 (counts_of p.table) ≡ good
  unfolding judged
  all-good = rw (good-header p.table accepted) at accepted

  pub accepted-row : (t k : ℕ) → k < row_count p t →
      (op : Op) × (row_of p t k ≡ decoded op) × Names (room_of p.table (row_count p t) k) op
  accepted-row t k h =
      says _ (row_of p t k)
      (rows-fine p.table (counts_of p.table) 0 0 all-good t k h)
      (op-names _ p.table _)
