-- The laws of a trace that is read back: an entry that it holds and one that it does not; how many there are. Assumes nothing.
--     there, not_there               what stands in an entry
--     entry_found                    whether it is one
--     entries-all, entries-on, entries-found, entries_none      the walk to the first that is none
--     operation-there, operation-none, operation-within      the row of an entry
--     operation-in                                           its thread, and what it names, are in range
use Prim.Native.Nat.{ℕ, ◌+◌, ◌-◌, ◌≤◌, ◌<◌}
use mathlib.Core.List.{List}
use mathlib.Core.Bool.{Bool, true, false, cond, not, ◌||◌}
use mathlib.Core.Path.{◌≡◌, refl, ap, sym, ◌∙◌}
use native.Mathlib.Omega.{arith}
use native.Mathlib.Nat.{sub-zero}
use native.Mathlib.Decide.{dec_lt}
use lib.Dec.{ltb, eqb}
use borrow.Author.Tests.{lt-ltb, le-ltb}
use Rattle.rules.specs.Table.{Op, Decoded, refused, decoded, first_not, max_threads}
use Rattle.std.specs.Prelude.{Option, Some}
use Rattle.decode.specs.declared.Op as codes
use Rattle.decode.specs.Ops.{op_of, decoded_of, InRange, OpWithin}
use Rattle.table.proofs.Within.{op-made}
use Rattle.table.proofs.Walks.{first_on, first_found, first-none}
use Rattle.steps.specs.Entries.{room, of_entry, entry_read, is_entry, entries, row_says, operation_at}
use Rattle.steps.proofs.RowLaws.{row-none}

module _ (trace : List ℕ) (i : ℕ) where
  pub there : {x y : ℕ} → i < room trace → x ≡ y → x ≡ of_entry trace i y
  there h e = rw (lt-ltb i (room trace) h) e

  pub not_there : (y : ℕ) → room trace ≤ i → 0 ≡ of_entry trace i y
  not_there y h = rw (le-ltb i (room trace) h)

pub entry_found : {opcode mask o m : ℕ} → opcode ≡ o → mask ≡ m →
    not (eqb opcode 0) || not (eqb mask 0) ≡ not (eqb o 0) || not (eqb m 0)
entry_found p q = rw (p, q)

-- whether there is an entry at i, and how many are left to be found from there on
abbrev is_at : List ℕ → ℕ → Bool
is_at trace i = is_entry (entry_read trace i)

abbrev pub entries_left : List ℕ → ℕ → ℕ
entries_left trace i = first_not (is_at trace) (room trace - i) i

module _ (trace : List ℕ) where
  pub entries-all : entries_left trace 0 ≡ entries trace
  unfolding entries
  entries-all = rw sub-zero

  module _ (i : ℕ) where
    pub entries-on : i < room trace → is_entry (entry_read trace i) ≡ true → entries_left trace (i + 1) ≡ entries_left trace i
    entries-on = first_on (is_at trace) (room trace) i

    pub entries-found : i < room trace → is_entry (entry_read trace i) ≡ false → entries_left trace i ≡ i
    entries-found = first_found (is_at trace) (room trace) i

    pub entries_none : room trace ≤ i → i ≤ room trace → entries_left trace i ≡ room trace
    entries_none = first-none (is_at trace) (room trace) i

-- what is decoded under a test is within where it is without the test
within-if : (b : Bool) {x : Decoded Op} (d : Option codes.Op) → (decoded_of d ≡ x → OpWithin d) → decoded_of d ≡ cond b x refused → OpWithin d
within-if true d h e = h e
within-if false d h e = rw e tt

module _ (table trace : List ℕ) (i : ℕ) where
  pub operation-there : i < room trace → {t k : ℕ} {d : Decoded Op} → t ≡ (entry_read trace i).thread → k ≡ (entry_read trace i).row →
      d ≡ row_says table t k → d ≡ operation_at table trace i
  unfolding operation_at
  operation-there h p q e = rw (lt-ltb i (room trace) h, ← p, ← q) e

  pub operation-none : room trace ≤ i → refused ≡ operation_at table trace i
  unfolding operation_at
  operation-none h = rw (le-ltb i (room trace) h)

  pub operation-within : {op : Op} → operation_at table trace i ≡ decoded op → i < room trace
  operation-within e = elim (dec_lt i (room trace)) [
    | yes l ↦ l
    | no l ↦ let past : room trace ≤ i = omega arith in let z : ◌≡◌ {A = ℕ} 0 1 = cc (operation-none past) in absurd (omega arith)
  ]

  operation-range : (d : Option codes.Op) → decoded_of d ≡ operation_at table trace i → OpWithin d
  unfolding operation_at row_says
  operation-range d =
      within-if (ltb i (room trace)) d
      (within-if (ltb (entry_read trace i).thread max_threads) d (λ h. (op-made table _ _ d h).within))

  operation-thread : {op : Op} → operation_at table trace i ≡ decoded op → (entry_read trace i).thread < max_threads
  operation-thread e = elim (dec_lt (entry_read trace i).thread max_threads) [
    | yes l ↦ l
    | no l ↦
        let past : max_threads ≤ (entry_read trace i).thread = omega arith in
        let none = operation-there (operation-within e) refl refl (row-none table (entry_read trace i).row refl past) in
        let z : ◌≡◌ {A = ℕ} 0 1 = cc in
        absurd (omega arith)
  ]

  pub operation-in : (d : Option codes.Op) {op : codes.Op} {byte thread : ℕ} → decoded_of d ≡ operation_at table trace i → d ≡ Some op →
      byte ≡ (entry_read trace i).thread → thread ≡ byte → (thread < 5) × InRange (op_of op)
  operation-in d {op} e f p q =
      let named : InRange (op_of op) = rw f at (operation-range d e) in
      (omega (arith, operation-thread (sym e ∙ ap decoded_of f)), named)
