-- The laws of what a row stores. Assumes nothing.
--     operand-stored, register-stored, nothing_stored     what is answered of each row
--     some-within, stores_as                                a store by that answer
--     storing-of, unsync-of                               the rows that are taken together
use Prim.Native.Nat.{ℕ, ◌<◌}
use mathlib.Core.List.{List, [], ◌∷◌}
use mathlib.Core.Bool.{not}
use mathlib.Core.Path.{◌≡◌, refl, ap, sym, subst, ◌∙◌}
use mir.Val.{has_key}
use lib.Dec.{T}
use types.Run.{OneOf, hit}
use denote.Enum.Declared.{tag_of}
use Rattle.rules.specs.Event.{Matched, Move}
use Rattle.rules.specs.State.{State, Values, value, of_register, register_at}
use Rattle.rules.specs.Machine.{Role, loads, stores_operand, stores_register, modifies, takes_bit, otherwise, role_of, Program, acts, acts_as, stores}
use Rattle.rules.specs.Table as Table
use Rattle.rules.specs.Table.{opcode_of}
use Rattle.rules.proofs.RoleLaws.{Told, told, missed, elsewhere}
use Rattle.decode.specs.contracts.Op as Op
use Rattle.decode.proofs.NumberLaws.{all_but, by_number, narrow}
use Rattle.decode.specs.declared.Op.{Op}
use Rattle.decode.specs.declared.Op.TheVariants as code
use Rattle.decode.specs.Ops.{op_of, InRange}
use Rattle.event.specs.Moves.{Happening, move_of}
use Rattle.execution.specs.Alone.{unsync, storing, Unsync, Storing}
use Rattle.execution.specs.Stores.{access_by, stored, stored_of, StoreWithin, Stores}
use Rattle.execution.specs.declared.Stored.{Stored}
use Rattle.std.specs.Prelude.{Option, None, Some}
use Rattle.execution.proofs.ActLaws.{op-within}

-- What is answered

-- the places of the rows that store nothing, among the variants
abbrev others : List ℕ
others = all_but (1 ∷ 2 ∷ [])

module _ (vs : Values) (t : ℕ) where
  pub operand-stored : (op : Op) (o c a : ℕ) → op ≡ code.Store o c a → InRange (op_of op) → Stores (Some (stored (access_by t c o) a)) vs t (role_of (op_of op))
  operand-stored op o c a e h =
      record { is = sym (ap (λ (p : Op). stored_of vs t (role_of (op_of p))) e); within = (refl, op-within op _ e h) }

  pub register-stored : (op : Op) (o c r v : ℕ) → op ≡ code.StoreRegister o c r → InRange (op_of op) →
      v ≡ value vs (of_register (register_at t r)) → Stores (Some (stored (access_by t c o) v)) vs t (role_of (op_of op))
  register-stored op o c r v e h f =
      record {
        is = ap (λ (x : ℕ). Some (stored (access_by t c o) x)) f ∙ sym (ap (λ (p : Op). stored_of vs t (role_of (op_of p))) e);
        within = (refl, (op-within op _ e h).0);
      }

  nothing-in : (op : Op) → OneOf others (tag_of Op.the_type op) → None ≡ stored_of vs t (role_of (op_of op))
  nothing-in op k = by-role (role_of (op_of op)) (told (op_of op))
    where
      not-this : (m : Table.Op) → op_of op ≡ m → T (not (has_key others (opcode_of m))) → ⊥
      not-this m e h = missed others (op_of op) m e h (by_number others op k)

      by-role : (role : Role) → Told role (op_of op) → None ≡ stored_of vs t role
      by-role (loads c o r) e = refl
      by-role (stores_operand c o a) e = absurd (not-this (Table.store c o a) e tt)
      by-role (stores_register c o r) e = absurd (not-this (Table.store_register c o r) e tt)
      by-role (modifies c o f change r) e = refl
      by-role (takes_bit r) e = refl
      by-role otherwise e = refl

  pub nothing_stored : (op : Op) → OneOf others (tag_of Op.the_type op) → Stores None vs t (role_of (op_of op))
  nothing_stored op k = record { is = nothing-in op k; within = tt }

-- A row by what it stores

pub some-within : (t : ℕ) (s : Option Stored) (x : Stored) → s ≡ Some x → StoreWithin t s → (x.access.thread ≡ t) × (x.access.cell < 4)
some-within t s x e h = subst (λ (y : Option Stored). StoreWithin t y) e h

-- a store, or else what the row does
abbrev stores_by : Option Stored → State → ℕ → ℕ → Move State → Move State
stores_by None st k n other = other
stores_by (Some s) st k n other = stores st s.access.thread k n s.access.cell s.access.order s.value

module _ (p : Program) (st : State) (t k : ℕ) where
  abbrev By : Role → Table.Op → Type 0
  By role op = stores_by (stored_of st.values t role) st k (opcode_of op) (acts p st t k op) ≡ acts p st t k op

  by-operand : (c o a : ℕ) → By (stores_operand c o a) (Table.store c o a)
  unfolding acts_as
  by-operand c o a = refl

  by_register : (c o r : ℕ) → By (stores_register c o r) (Table.store_register c o r)
  unfolding acts_as
  by_register c o r = refl

  by-storing : (role : Role) (op : Table.Op) → Told role op → By role op
  by-storing (loads c o r) op e = refl
  by-storing (stores_operand c o a) op e = subst (By (stores_operand c o a)) (sym e) (by-operand c o a)
  by-storing (stores_register c o r) op e = subst (By (stores_register c o r)) (sym e) (by_register c o r)
  by-storing (modifies c o f change r) op e = refl
  by-storing (takes_bit r) op e = refl
  by-storing otherwise op e = refl

  pub stores_as : (op : Op) (s : Option Stored) → s ≡ stored_of st.values t (role_of (op_of op)) → (x : Stored) → s ≡ Some x → x.access.thread ≡ t →
      (r : Happening) (m : Matched) (left : State) →
      move_of r x.access.thread k (opcode_of (op_of op)) m left ≡ stores st x.access.thread k (opcode_of (op_of op)) x.access.cell x.access.order x.value →
      move_of r t k (opcode_of (op_of op)) m left ≡ acts p st t k (op_of op)
  stores_as op s is x e own r m left h =
      ap (λ (u : ℕ). move_of r u k (opcode_of (op_of op)) m left) (sym own)
      ∙ h
      ∙ ap (λ (y : Option Stored). stores_by y st k (opcode_of (op_of op)) (acts p st t k (op_of op))) (sym e ∙ is)
      ∙ by-storing (role_of (op_of op)) (op_of op) (told (op_of op))

abbrev Something : Option Stored → Type 0
Something None = ⊥
Something (Some s) = Unit

-- a row that stores nothing, among those that store and those without synchronisation
module _ (vs : Values) (t : ℕ) (s : Option Stored) (none : s ≡ None) where
  pub unsync-of : (op : Op) → s ≡ stored_of vs t (role_of (op_of op)) → Storing (op_of op) → Unsync (op_of op)
  unsync-of op is own = by-role (role_of (op_of op)) (told (op_of op)) is
    where
      not-this : (m : Table.Op) → op_of op ≡ m → T (not (has_key storing (opcode_of m))) → ⊥
      not-this m e h = missed storing (op_of op) m e h own

      by-role : (role : Role) → Told role (op_of op) → s ≡ stored_of vs t role → Unsync (op_of op)
      by-role (loads c o r) e is = absurd (not-this (Table.load c o r) e tt)
      by-role (stores_operand c o a) e is = absurd (subst (λ (x : Option Stored). Something x) (sym is ∙ none) tt)
      by-role (stores_register c o r) e is = absurd (subst (λ (x : Option Stored). Something x) (sym is ∙ none) tt)
      by-role (modifies c o f change r) e is = absurd (not-this (Table.rmw c o f change r) e tt)
      by-role (takes_bit r) e is = subst (λ (m : Table.Op). Unsync m) (sym e) (hit unsync 16 tt)
      by-role otherwise e is = narrow elsewhere storing unsync (opcode_of (op_of op)) tt e own

-- the places of the rows without an arm of their own
pub storing-of : (op : Op) → OneOf storing (tag_of Op.the_type op) → Storing (op_of op)
storing-of op k = by_number storing op k
