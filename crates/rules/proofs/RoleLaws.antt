-- What a role tells of its row. Assumes nothing.
--     Told, told        the row that has this role, or that its opcode is one of the others
--     missed            a row of these opcodes is not that one
use Prim.Native.Nat.{ℕ}
use mathlib.Core.Bool.{not}
use mathlib.Core.List.{List, [], ◌∷◌}
use mathlib.Core.Path.{◌≡◌, refl, ap, subst}
use mir.Val.{has_key}
use lib.Dec.{T}
use types.Run.{OneOf, hit, miss}
use Rattle.rules.specs.Table as Table
use Rattle.rules.specs.Table.{Op, opcode_of}
use Rattle.rules.specs.Machine.{Role, loads, stores_operand, stores_register, modifies, takes_bit, otherwise, role_of}

-- the opcodes that set no operation and ask for neither slot nor bit
abbrev pub elsewhere : List ℕ
elsewhere = 4 ∷ 5 ∷ 6 ∷ 7 ∷ 8 ∷ 9 ∷ 10 ∷ 11 ∷ 12 ∷ 13 ∷ 14 ∷ 15 ∷ 17 ∷ 18 ∷ []

abbrev pub Told : Role → Op → Type 0
Told (loads c o r) op = op ≡ Table.load c o r
Told (stores_operand c o a) op = op ≡ Table.store c o a
Told (stores_register c o r) op = op ≡ Table.store_register c o r
Told (modifies c o f change r) op = op ≡ Table.rmw c o f change r
Told (takes_bit r) op = op ≡ Table.spurious r
Told otherwise op = OneOf elsewhere (opcode_of op)

pub told : (op : Op) → Told (role_of op) op
told (Table.load c o r) = refl
told (Table.store c o a) = refl
told (Table.store_register c o r) = refl
told (Table.rmw c o f change r) = refl
told (Table.fence o) = hit elsewhere 4 tt
told (Table.unsync_load c r) = hit elsewhere 5 tt
told (Table.with_mut c change r) = hit elsewhere 6 tt
told Table.yield = hit elsewhere 7 tt
told (Table.join target) = hit elsewhere 8 tt
told (Table.jump target) = hit elsewhere 9 tt
told (Table.jump_if r a target) = hit elsewhere 10 tt
told (Table.jump_unless r a target) = hit elsewhere 11 tt
told (Table.check r a) = hit elsewhere 12 tt
told Table.critical = hit elsewhere 13 tt
told Table.explore_state = hit elsewhere 14 tt
told Table.skip_branch = hit elsewhere 15 tt
told (Table.spurious r) = refl
told (Table.plain_read c r) = hit elsewhere 17 tt
told (Table.plain_write c a) = hit elsewhere 18 tt

pub missed : (ks : List ℕ) (op m : Op) → op ≡ m → T (not (has_key ks (opcode_of m))) → OneOf ks (opcode_of op) → ⊥
missed ks op m e h k = miss ks (opcode_of m) h (subst (λ (n : ℕ). OneOf ks n) (ap (λ (x : Op). opcode_of x) e) k)
