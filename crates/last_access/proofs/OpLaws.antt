-- The laws of the arm of a match that takes all other rows together, where a match asks for the cell or an access. Assumes nothing.
--     no_cell, no_store    the rows that name no cell and no plain cell, that never store
use Prim.Native.Nat.{ℕ}
use mathlib.Core.Bool.{false, not}
use mathlib.Core.List.{List, [], ◌∷◌}
use mathlib.Core.Path.{◌≡◌, refl}
use Rattle.std.specs.Prelude.{None}
use mir.Val.{has_key}
use lib.Dec.{T}
use types.Run.{OneOf, miss}
use denote.Enum.Declared.{tag_of}
use Rattle.rules.specs.Table as Table
use Rattle.rules.specs.Table.{opcode_of}
use Rattle.rules.specs.Machine.{Role, loads, stores_operand, stores_register, modifies, takes_bit, otherwise, role_of}
use Rattle.rules.proofs.RoleLaws.{Told, told, missed}
use Rattle.decode.proofs.NumberLaws.{all_but, by_number}
use Rattle.decode.specs.contracts.Op.{the_type}
use Rattle.decode.specs.declared.Op.{Op}
use Rattle.decode.specs.declared.Op.TheVariants as code
use Rattle.decode.specs.Ops.{op_of}
use Rattle.last_access.specs.Access.{cell_in, stores_as, stores_after}

-- the places among the variants of the rows that name no cell and no plain cell
abbrev elsewhere : List ℕ
elsewhere = all_but (0 ∷ 1 ∷ 2 ∷ 3 ∷ 5 ∷ 6 ∷ 17 ∷ 18 ∷ [])

pub no_cell : (op : Op) → OneOf elsewhere (tag_of the_type op) → None ≡ cell_in (op_of op)
no_cell (code.Load order cell register) k = absurd (miss elsewhere 0 tt k)
no_cell (code.Store order cell value) k = absurd (miss elsewhere 1 tt k)
no_cell (code.StoreRegister order cell register) k = absurd (miss elsewhere 2 tt k)
no_cell (code.Rmw order cell register change failure) k = absurd (miss elsewhere 3 tt k)
no_cell (code.Fence order) k = refl
no_cell (code.UnsyncLoad cell register) k = absurd (miss elsewhere 5 tt k)
no_cell (code.WithMut cell register change) k = absurd (miss elsewhere 6 tt k)
no_cell code.Yield k = refl
no_cell (code.Join thread) k = refl
no_cell (code.Jump target) k = refl
no_cell (code.JumpIf target register a) k = refl
no_cell (code.JumpUnless target register a) k = refl
no_cell (code.Check register a) k = refl
no_cell code.Critical k = refl
no_cell code.ExploreState k = refl
no_cell code.SkipBranch k = refl
no_cell (code.Spurious register) k = refl
no_cell (code.PlainRead plain register) k = absurd (miss elsewhere 17 tt k)
no_cell (code.PlainWrite plain value) k = absurd (miss elsewhere 18 tt k)

-- and of those that never store
abbrev reading : List ℕ
reading = all_but (1 ∷ 2 ∷ 3 ∷ [])

pub no_store : (op : Op) (v : ℕ) → OneOf reading (tag_of the_type op) → false ≡ stores_after v (op_of op)
no_store op v k = by-role (role_of (op_of op)) (told (op_of op))
  where
    not-this : (m : Table.Op) → op_of op ≡ m → T (not (has_key reading (opcode_of m))) → ⊥
    not-this m e h = missed reading (op_of op) m e h (by_number reading op k)

    by-role : (role : Role) → Told role (op_of op) → false ≡ stores_as v role
    by-role (loads c o r) e = refl
    by-role (stores_operand c o a) e = absurd (not-this (Table.store c o a) e tt)
    by-role (stores_register c o r) e = absurd (not-this (Table.store_register c o r) e tt)
    by-role (modifies c o f change r) e = absurd (not-this (Table.rmw c o f change r) e tt)
    by-role (takes_bit r) e = refl
    by-role otherwise e = refl
