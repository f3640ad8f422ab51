-- Laws for the search of rows: one turn of each loop. Assumes nothing.
use Prim.Native.Nat.{ℕ, suc, ◌+◌, ◌-◌, ◌≤◌, ◌<◌}
use mathlib.Core.List.{List, [], ◌∷◌}
use Rattle.std.specs.Prelude.{Option, Some, None}
use mathlib.Core.Bool.{Bool, true, false, cond, not, ◌||◌}
use mathlib.Core.Path.{◌≡◌, refl, ap, sym, ◌∙◌}
use native.Mathlib.Omega.{arith}
use native.Mathlib.Nat.{sub-zero, zero-add}
use borrow.Author.Tests.{lt-ltb, le-ltb}
use mir.Val.{has_key}
use lib.Dec.{T, ltb}
use types.Run.{OneOf}
use denote.Enum.Declared.{tag_of}
use Rattle.rules.specs.Table as rules
use Rattle.rules.specs.Table.{first_not, shape_of, opcode_of}
use Rattle.rules.specs.Machine.{Role, loads, stores_operand, stores_register, modifies, takes_bit, otherwise, role_of, pending_as}
use Rattle.rules.proofs.RoleLaws as role
use Rattle.rules.proofs.RoleLaws.{Told, missed}
use Rattle.decode.specs.contracts.Op as Op
use Rattle.decode.proofs.NumberLaws.{all_but, by_number, no_number}
use Rattle.decode.specs.declared.Op.{Op}
use Rattle.decode.specs.declared.Op.TheVariants as code
use Rattle.std.specs.Prelude.{Option, Some, None}
use Rattle.decode.specs.Ops.{op_of, decoded_of}
use Rattle.coverage.specs.Covered.{count_of, row_op, switches, one_below, first_in_thread, site_or, first_from, first_switch, stores_pending, stores_to, one_if, summed, stores_in, store_count}
use Rattle.coverage.specs.declared.search.RowAt.{RowAt}

-- The first row of a thread that switches (table/proofs/Walks has the turns of that loop)

abbrev pub stays : List ℕ → List ℕ → Bool → ℕ → ℕ → Bool
stays t shape on thread row = not (switches on (row_op t shape thread row))

pub first-all : (t shape : List ℕ) (on : Bool) (thread count : ℕ) → count ≡ count_of shape thread →
    one_below count (first_not (stays t shape on thread) (count - 0) 0) ≡ first_in_thread t shape on thread
unfolding first_in_thread
first-all t shape on thread count e = rw (sub-zero, e)

module _ (n i k : ℕ) where
  pub below_some : k ≡ i → i < n → one_below n k ≡ Some i
  below_some p h = let e : ltb i n ≡ true = lt-ltb i n h in rw (p, e)

  pub below-none : k ≡ n → one_below n k ≡ None
  below-none p = let e : ltb n n ≡ false = le-ltb n n (omega arith) in rw (p, e)

-- by what the code found of the row
pub told : (on : Bool) (d e : rules.Decoded rules.Op) (r b : Bool) → r ≡ switches on d → d ≡ e → r ≡ b → not (switches on e) ≡ not b
told on d e r b q p s = ap (λ (x : rules.Decoded rules.Op). not (switches on x)) (sym p) ∙ ap not (sym q ∙ s)

-- The first thread that has such a row: what is left to be asked at thread i

module _ (t shape : List ℕ) (on : Bool) (i : ℕ) (whole : Option RowAt) (left : first_from t shape on (5 - i) i ≡ whole) (h : i < 5) where
  from_one : first_from t shape on (5 - i) i ≡ site_or i (first_in_thread t shape on i) (first_from t shape on (5 - (i + 1)) (i + 1))
  unfolding first_from
  from_one = let e : 5 - i ≡ suc (5 - (i + 1)) = omega arith in rw e

  pub from_on : None ≡ first_in_thread t shape on i → first_from t shape on (5 - (i + 1)) (i + 1) ≡ whole
  from_on e = sym (rw (← e) at from_one) ∙ left

  pub from_found : (row : ℕ) → Some row ≡ first_in_thread t shape on i → Some (record { thread = i; row = row }) ≡ whole
  from_found row e = sym (rw (← e) at from_one) ∙ left

pub from_all : (t shape : List ℕ) (on : Bool) → shape ≡ shape_of t → first_from t shape on 5 0 ≡ first_switch t on
from_all t shape on e = rw e

pub from-none : (t shape : List ℕ) (on : Bool) (i : ℕ) (whole : Option RowAt) → first_from t shape on (5 - i) i ≡ whole → 5 ≤ i → None ≡ whole
unfolding first_from
from-none t shape on i whole left h = let e : 5 - i ≡ 0 = omega arith in rw e at left

-- A sum: what is left to be added at place i

module _ (f : ℕ → ℕ) (n i : ℕ) where
  sum_one : i < n → summed f (n - i) i ≡ f i + summed f (n - (i + 1)) (i + 1)
  unfolding summed
  sum_one h = let e : n - i ≡ suc (n - (i + 1)) = omega arith in rw e

  sum_over : n ≤ i → summed f (n - i) i ≡ 0
  unfolding summed
  sum_over h = let e : n - i ≡ 0 = omega arith in rw e

  module _ (s whole : ℕ) (left : s + summed f (n - i) i ≡ whole) where
    pub sum-on : (x : ℕ) → i < n → x ≡ f i → s + x + summed f (n - (i + 1)) (i + 1) ≡ whole
    sum-on x h e = omega (arith, sum_one h)

    pub sum-none : n ≤ i → s ≡ whole
    sum-none h = omega (arith, sum_over h)

-- 1 for a row that may store
abbrev pub storing : List ℕ → List ℕ → ℕ → ℕ → ℕ → ℕ
storing t shape cell thread row = one_if (stores_to cell (row_op t shape thread row))

pub sum-all : (t shape : List ℕ) (cell thread count : ℕ) → count ≡ count_of shape thread →
    0 + summed (storing t shape cell thread) (count - 0) 0 ≡ stores_in t shape cell thread
unfolding stores_in
sum-all t shape cell thread count e = rw (sub-zero, e, zero-add)

pub stores-all : (t shape : List ℕ) (cell : ℕ) → shape ≡ shape_of t → 0 + summed (stores_in t shape cell) 5 0 ≡ store_count t cell
stores-all t shape cell e = rw (e, zero-add)

at_most_one : (b : Bool) → one_if b ≤ 1
at_most_one true = omega arith
at_most_one false = omega arith

-- what the code found of a row
module _ (cell : ℕ) (d : rules.Decoded rules.Op) (r : ℕ) (found : r ≡ one_if (stores_to cell d)) where
  pub stored : (e : rules.Decoded rules.Op) → d ≡ e → r ≡ one_if (stores_to cell e)
  stored e p = found ∙ ap (λ (x : rules.Decoded rules.Op). one_if (stores_to cell x)) p

  pub few : r ≤ 1
  few = omega (arith, at_most_one (stores_to cell d))

-- Which rows store

-- all but the store, the store of a register and the RMW
abbrev others : List ℕ
others = all_but (1 ∷ 2 ∷ 3 ∷ [])

stores-none : (op : Op) (cell : ℕ) → OneOf others (tag_of Op.the_type op) → stores_to cell (rules.decoded (op_of op)) ≡ false
stores-none op cell k = by-role (role_of (op_of op)) (role.told (op_of op))
  where
    not-this : (m : rules.Op) → op_of op ≡ m → T (not (has_key others (opcode_of m))) → ⊥
    not-this m e h = missed others (op_of op) m e h (by_number others op k)

    by-role : (role : Role) → Told role (op_of op) → stores_pending cell (pending_as role) ≡ false
    by-role (loads c o r) e = refl
    by-role (stores_operand c o a) e = absurd (not-this (rules.store c o a) e tt)
    by-role (stores_register c o r) e = absurd (not-this (rules.store_register c o r) e tt)
    by-role (modifies c o f change r) e = absurd (not-this (rules.rmw c o f change r) e tt)
    by-role (takes_bit r) e = refl
    by-role otherwise e = refl

pub stores_as : (row : Option Op) (op m : Op) (cell r : ℕ) (b : Bool) → row ≡ Some op → op ≡ m → r ≡ one_if b →
    b ≡ stores_to cell (rules.decoded (op_of m)) → r ≡ one_if (stores_to cell (decoded_of row))
stores_as row op m cell r b p q e s = rw (p, q) (e ∙ ap one_if s)

pub stores-else : (row : Option Op) (op : Op) (cell : ℕ) → row ≡ Some op → OneOf others (tag_of Op.the_type op) →
    0 ≡ one_if (stores_to cell (decoded_of row))
stores-else row op cell p k = rw (p, stores-none op cell k)

-- Which rows switch

pub switches-none : (on : Bool) (row : Option Op) → row ≡ None → false ≡ switches on (decoded_of row)
switches-none true row p = rw p
switches-none false row p = rw p

-- a row by what is said of it where exploring is to go on, and where it is to go off
switches-each : (said : Bool → Bool) (d : rules.Decoded rules.Op) → said true ≡ switches true d → said false ≡ switches false d →
    (on : Bool) → said on ≡ switches on d
switches-each said d p q true = p
switches-each said d p q false = q

module _ (on : Bool) (row : Option Op) (op : Op) (p : row ≡ Some op) where
  pub switches_on : op ≡ code.ExploreState → on ≡ switches on (decoded_of row)
  switches_on q = rw (p, q) (switches-each (λ (b : Bool). b) _ refl refl on)

  pub switches-off : (m : Op) → op ≡ m → false ≡ switches true (rules.decoded (op_of m)) → true ≡ switches false (rules.decoded (op_of m)) →
      not on ≡ switches on (decoded_of row)
  switches-off m q y n = rw (p, q) (switches-each not _ y n on)

-- all but `critical`, `explore_state` and `skip_branch`
abbrev still : List ℕ
still = all_but (13 ∷ 14 ∷ 15 ∷ [])

never : (on : Bool) (op : Op) → OneOf still (tag_of Op.the_type op) → false ≡ switches on (rules.decoded (op_of op))
never true op k = no_number still op k 14 tt
never false op k = neither (no_number still op k 13 tt) (no_number still op k 15 tt)
  where
    neither : {a b : Bool} → false ≡ a → false ≡ b → false ≡ (a || b)
    neither p q = rw (← p, ← q)

pub switches-else : (on : Bool) (row : Option Op) (op : Op) → row ≡ Some op → OneOf still (tag_of Op.the_type op) →
    false ≡ switches on (decoded_of row)
switches-else on row op p k = rw p (never on op k)
