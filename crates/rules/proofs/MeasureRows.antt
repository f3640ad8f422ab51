-- A row that says something names cells, threads and targets that there are: so every write of its acts stands under its own name.
-- Assumes nothing.
--     pick, both_left, both_right     what a test picks
--     Names, RowNames, op-names       what a row names is there, by the room that it has
--     widest, row-in-place            so it is among the five threads, the four cells and the four plain cells, whatever the table
--     OnCell, row-on-cell             and a pending operation is on one of the four cells
use Prim.Native.Nat.{ℕ, ◌+◌, ◌≤◌, ◌<◌}
use mathlib.Core.List.{List}
use mathlib.Core.Bool.{Bool, true, false, cond, ◌&&◌, false≢true, and-eq-true_iff}
use mathlib.Core.Path.{◌≡◌, refl, subst}
use mathlib.Core.Logic.{◌↔◌}
use native.Mathlib.Omega.{arith}
use lib.Dec.{leb, eqb}
use borrow.Author.Tests.{ltb-true, leb-true}
use Rattle.rules.specs.Change.{Change}
use Rattle.rules.specs.Table as Table
use Rattle.rules.specs.Table.{Op, Row, Room, Decoded, refused, decoded, only_if, row_decoded, row_at, op_at}
use Rattle.rules.specs.State.{threads, cells, plains}
use Rattle.rules.specs.Machine.{Program, Pending, nothing, pends, Role, loads, stores_operand, stores_register, modifies, takes_bit, otherwise, role_of, role_in, pending_as, pending_of, row_count, row_of}
use Rattle.rules.proofs.RoleLaws.{Told, told}

-- what holds of both sides of a test holds of what it picks
pub pick : {A : Type 0} (P : A → Type 0) (c : Bool) {x y : A} → (c ≡ true → P x) → (c ≡ false → P y) → P (cond c x y)
pick P true f g = f refl
pick P false f g = g refl

pub both_left : (x y : Bool) → (x && y) ≡ true → x ≡ true
both_left true y e = refl
both_left false y e = e

pub both_right : (x y : Bool) → (x && y) ≡ true → y ≡ true
both_right true y e = e
both_right false true e = refl
both_right false false e = e

-- in a room
abbrev pub Names : Room → Op → Type 0
Names room (Table.load c o r) = c < room.cells
Names room (Table.store c o a) = c < room.cells
Names room (Table.store_register c o r) = c < room.cells
Names room (Table.rmw c o f change r) = c < room.cells
Names room (Table.fence o) = Unit
Names room (Table.unsync_load c r) = c < room.cells
Names room (Table.with_mut c change r) = c < room.cells
Names room Table.yield = Unit
Names room (Table.join target) = target < room.threads
Names room (Table.jump target) = target ≤ room.rows
Names room (Table.jump_if r a target) = target ≤ room.rows
Names room (Table.jump_unless r a target) = target ≤ room.rows
Names room (Table.check r a) = Unit
Names room Table.critical = Unit
Names room Table.explore_state = Unit
Names room Table.skip_branch = Unit
Names room (Table.spurious r) = Unit
Names room (Table.plain_read c r) = c < room.plains
Names room (Table.plain_write c a) = c < room.plains

-- what is said of what a row decodes to
module _ (room : Room) where
  unfoldable pub RowNames : Decoded Op → Type 0
  RowNames refused = Unit
  RowNames (decoded op) = Names room op

  none : RowNames refused
  unfolding RowNames
  none = tt

  only-names : (b : Bool) (op : Op) → RowNames (only_if b op) ↔ (b ≡ true → Names room op)
  unfolding RowNames
  only-names true op = (λ h e. h, λ h. h refl)
  only-names false op = (λ h e. absurd (false≢true e), λ h. tt)

  pub is-named : (op : Op) → RowNames (decoded op) → Names room op
  unfolding RowNames
  is-named op h = h

  module _ (r : Row) where
    bare : (op : Op) → Names room op → RowNames (Table.bare_row op r)
    bare op h = simp only-names (λ e. h)

    load-names : RowNames (Table.load_row room.cells r)
    load-names = simp (only-names, and-eq-true_iff) (omega (arith, ltb-true))

    store-names : RowNames (Table.store_row room.cells r)
    store-names = simp (only-names, and-eq-true_iff) (omega (arith, ltb-true))

    register-names : RowNames (Table.store_register_row room.cells r)
    register-names = simp (only-names, and-eq-true_iff) (omega (arith, ltb-true))

    rmw-names : (change : Decoded Change) → RowNames (Table.rmw_row room.cells r change)
    rmw-names refused = none
    rmw-names (decoded change) = simp (only-names, and-eq-true_iff) (omega (arith, ltb-true))

    unsync-names : RowNames (Table.unsync_load_row room.cells r)
    unsync-names = simp (only-names, and-eq-true_iff) (omega (arith, ltb-true))

    with-mut-names : (change : Decoded Change) → RowNames (Table.with_mut_row room.cells r change)
    with-mut-names refused = none
    with-mut-names (decoded change) = simp (only-names, and-eq-true_iff) (omega (arith, ltb-true))

    join_names : RowNames (Table.join_row room.threads r)
    join_names = simp (only-names, and-eq-true_iff) (omega (arith, ltb-true))

    jump-names : RowNames (Table.jump_row room.rows room.row r)
    jump-names = simp (only-names, and-eq-true_iff) (omega (arith, leb-true))

    jump-if-names : RowNames (Table.jump_on_row Table.jump_if room.rows r)
    jump-if-names = simp (only-names, and-eq-true_iff) (omega (arith, leb-true))

    jump-unless-names : RowNames (Table.jump_on_row Table.jump_unless room.rows r)
    jump-unless-names = simp (only-names, and-eq-true_iff) (omega (arith, leb-true))

    plain-read-names : RowNames (Table.plain_read_row room.plains r)
    plain-read-names = simp (only-names, and-eq-true_iff) (omega (arith, ltb-true))

    plain-write-names : RowNames (Table.plain_write_row room.plains r)
    plain-write-names = simp (only-names, and-eq-true_iff) (omega (arith, ltb-true))

    row-names : RowNames (row_decoded room r)
    unfolding row_decoded
    row-names =
        pick RowNames (eqb r.opcode 0) (λ e. load-names)
        (λ e. pick RowNames (eqb r.opcode 1) (λ e. store-names)
        (λ e. pick RowNames (eqb r.opcode 2) (λ e. register-names)
        (λ e. pick RowNames (eqb r.opcode 3) (λ e. rmw-names (Table.change_decoded r.kind r.a r.b))
        (λ e. pick RowNames (eqb r.opcode 4) (λ e. simp only-names (λ e. tt))
        (λ e. pick RowNames (eqb r.opcode 5) (λ e. unsync-names)
        (λ e. pick RowNames (eqb r.opcode 6) (λ e. with-mut-names (Table.change_decoded r.kind r.a r.b))
        (λ e. pick RowNames (eqb r.opcode 7) (λ e. bare Table.yield tt)
        (λ e. pick RowNames (eqb r.opcode 8) (λ e. join_names)
        (λ e. pick RowNames (eqb r.opcode 9) (λ e. jump-names)
        (λ e. pick RowNames (eqb r.opcode 10) (λ e. jump-if-names)
        (λ e. pick RowNames (eqb r.opcode 11) (λ e. jump-unless-names)
        (λ e. pick RowNames (eqb r.opcode 12) (λ e. simp only-names (λ e. tt))
        (λ e. pick RowNames (eqb r.opcode 13) (λ e. bare Table.critical tt)
        (λ e. pick RowNames (eqb r.opcode 14) (λ e. bare Table.explore_state tt)
        (λ e. pick RowNames (eqb r.opcode 15) (λ e. bare Table.skip_branch tt)
        (λ e. pick RowNames (eqb r.opcode 16) (λ e. simp only-names (λ e. tt))
        (λ e. pick RowNames (eqb r.opcode 17) (λ e. plain-read-names)
        (λ e. pick RowNames (eqb r.opcode 18) (λ e. plain-write-names) (λ e. none)))))))))))))))))))

  -- there are not more threads, cells and plain cells than there can be
  abbrev pub few_enough : Bool
  few_enough = leb room.threads Table.max_threads && leb room.cells Table.max_cells && leb room.plains Table.max_plains

  pub op-names : (t : List ℕ) (index : ℕ) → RowNames (op_at t room index)
  unfolding op_at
  op-names t index = pick RowNames few_enough (λ e. row-names (row_at t (room.cells + room.plains) index)) (λ e. none)

-- Whatever the table

-- the room of a row of this number, in a thread of so many rows, in a table with as many of each as there can be
abbrev pub widest : ℕ → ℕ → Room
widest count row = record { threads = threads; cells = cells; plains = plains; rows = count; row = row }

module _ (room : Room) (few : room.threads ≤ threads) (held : room.cells ≤ cells) (plain : room.plains ≤ plains) where
  names_more : (op : Op) → Names room op → Names (widest room.rows room.row) op
  names_more (Table.load c o r) h = omega arith
  names_more (Table.store c o a) h = omega arith
  names_more (Table.store_register c o r) h = omega arith
  names_more (Table.rmw c o f change r) h = omega arith
  names_more (Table.fence o) h = h
  names_more (Table.unsync_load c r) h = omega arith
  names_more (Table.with_mut c change r) h = omega arith
  names_more Table.yield h = h
  names_more (Table.join target) h = omega arith
  names_more (Table.jump target) h = h
  names_more (Table.jump_if r a target) h = h
  names_more (Table.jump_unless r a target) h = h
  names_more (Table.check r a) h = h
  names_more Table.critical h = h
  names_more Table.explore_state h = h
  names_more Table.skip_branch h = h
  names_more (Table.spurious r) h = h
  names_more (Table.plain_read c r) h = omega arith
  names_more (Table.plain_write c a) h = omega arith

  row_more : (d : Decoded Op) → RowNames room d → RowNames (widest room.rows room.row) d
  unfolding RowNames
  row_more refused h = tt
  row_more (decoded op) h = names_more op h

pub row-in-place : (p : Program) (t k : ℕ) → RowNames (widest (row_count p t) k) (row_of p t k)
unfolding op_at
row-in-place p t k =
    let room = Table.room_of p.table (row_count p t) k in
    let few = leb room.threads Table.max_threads in
    let held = leb room.cells Table.max_cells in
    let plain = leb room.plains Table.max_plains in
    pick (RowNames (widest (row_count p t) k)) (few_enough room)
    (λ e. row_more room (leb-true _ _ (both_left few _ (both_left _ plain e))) (leb-true _ _ (both_right few held (both_left _ plain e)))
    (leb-true _ _ (both_right (few && held) plain e)) _ (row-names room _))
    (λ e. none (widest (row_count p t) k))

-- Pending operations

abbrev pub OnCell : Pending → Type 0
OnCell nothing = Unit
OnCell (pends operation cell) = cell < cells

-- of a row that is to the path what this role says
abbrev pub RoleOnCell : Role → Type 0
RoleOnCell role = OnCell (pending_as role)

pub on-cell : (count row : ℕ) (op : Op) → Names (widest count row) op → OnCell (pending_of op)
on-cell count row op h = by-role (role_of op) (told op)
  where
    named : (m : Op) → op ≡ m → Names (widest count row) m
    named m e = subst (Names (widest count row)) e h

    by-role : (role : Role) → Told role op → RoleOnCell role
    by-role (loads c o r) e = named (Table.load c o r) e
    by-role (stores_operand c o a) e = named (Table.store c o a) e
    by-role (stores_register c o r) e = named (Table.store_register c o r) e
    by-role (modifies c o f change r) e = named (Table.rmw c o f change r) e
    by-role (takes_bit r) e = tt
    by-role otherwise e = tt

row_on : (count row : ℕ) (d : Decoded Op) → RowNames (widest count row) d → RoleOnCell (role_in d)
unfolding RowNames
row_on count row refused h = tt
row_on count row (decoded op) h = on-cell count row op h

pub row-on-cell : (p : Program) (t k : ℕ) → RoleOnCell (role_in (row_of p t k))
row-on-cell p t k = row_on (row_count p t) k (row_of p t k) (row-in-place p t k)
