-- What is decoded names only cells, registers and threads that there can be. Assumes nothing.
use Prim.Native.Nat.{ℕ, ◌+◌, ◌<◌, ◌≤◌}
use native.Mathlib.Omega.{arith}
use mathlib.Core.List.{List}
use mathlib.Core.Bool.{Bool, true, false, cond, ◌&&◌, and-eq-true_iff}
use mathlib.Core.Path.{◌≡◌, refl, sym}
use lib.Dec.{ltb, leb, eqb}
use borrow.Author.Tests.{ltb-true, leb-true}
use Rattle.rules.specs.Change.{Change}
use Rattle.rules.specs.Table.{max_threads, max_cells, max_plains, Row, Room, Op, Decoded, refused, decoded, only_if, is_register, is_fence_order, load, store, store_register, rmw, fence, unsync_load, with_mut, yield, join, jump, jump_if, jump_unless, check, critical, explore_state, skip_branch, spurious, plain_read, plain_write, load_row, store_row, store_register_row, rmw_row, fence_row, unsync_load_row, with_mut_row, bare_row, join_row, jump_row, jump_on_row, check_row, spurious_row, plain_read_row, plain_write_row, change_decoded, row_decoded, row_at, op_at}
use Rattle.std.specs.Prelude.{Option, Some}
use Rattle.decode.specs.declared.Op as code
use Rattle.decode.specs.Ops.{op_of, decoded_of, InRange, AllInRange}
use Rattle.table.specs.Answers.{OpAt}

first : (a b : Bool) → a && b ≡ true → a ≡ true
first a b e = ((and-eq-true_iff a b).0 e).0

second : (a b : Bool) → a && b ≡ true → b ≡ true
second a b e = ((and-eq-true_iff a b).0 e).1

record In (d : Decoded Op) : Type 0 where
  is : AllInRange d

-- a test chooses between two, or accepts
pick : (b : Bool) {x y : Decoded Op} → In x → In y → In (cond b x y)
pick true p q = p
pick false p q = q

only : (b : Bool) (op : Op) → (b ≡ true → InRange op) → In (only_if b op)
only true op f = record { is = f refl }
only false op f = record { is = tt }

none : In refused
none = record { is = tt }

below : {n most : ℕ} (x : ℕ) → n ≤ most → ltb x n ≡ true → x < most
below {n} {most} x h e = let l = ltb-true x n e in omega arith

register : (x : ℕ) → is_register x ≡ true → x < 4
register x e = ltb-true x 4 e

-- a cell and a register, whatever is asked between and after
module _ (cells object register : ℕ) (small : cells ≤ 4) where
  near : (a x : Bool) → (a ≡ true → ltb object cells ≡ true) → a && is_register register && x ≡ true → (object < 4) × (register < 4)
  near a x h e =
      let f : a && is_register register ≡ true = first _ x e in
      (below object small (h (first _ (is_register register) f)), ltb-true register 4 (second a _ f))

  next : (x : Bool) → ltb object cells && is_register register && x ≡ true → (object < 4) × (register < 4)
  next x e = near _ x (λ h. h) e

  later : (x y : Bool) → ltb object cells && x && is_register register && y ≡ true → (object < 4) × (register < 4)
  later x y e = near (ltb object cells && x) y (first _ x) e

  last : (x y z : Bool) → ltb object cells && x && y && is_register register && z ≡ true → (object < 4) × (register < 4)
  last x y z e = near (ltb object cells && x && y) z (λ h. first _ x (first _ y h)) e

module _ (room : Room) (r : Row) (few : room.threads ≤ 5) (small : room.cells ≤ 4) (plain : room.plains ≤ 4) where
  rmw-in : (d : Decoded Change) → In (rmw_row room.cells r d)
  rmw-in refused = none
  rmw-in (decoded change) =
      only (ltb r.object room.cells && _ && _ && is_register r.register && _) (rmw r.object r.order r.failure change r.register) (λ e. last room.cells r.object r.register small _ _ _ e)

  with-mut-in : (d : Decoded Change) → In (with_mut_row room.cells r d)
  with-mut-in refused = none
  with-mut-in (decoded change) =
      only (ltb r.object room.cells && is_register r.register && _) (with_mut r.object change r.register) (λ e. next room.cells r.object r.register small _ e)

  load-in : In (load_row room.cells r)
  load-in = only (ltb r.object room.cells && _ && is_register r.register && _) (load r.object r.order r.register) (λ e. later room.cells r.object r.register small _ _ e)

  store_in : In (store_row room.cells r)
  store_in = only (ltb r.object room.cells && _ && _) (store r.object r.order r.a) (λ e. below _ small (first _ _ (first _ _ e)))

  store-register-in : In (store_register_row room.cells r)
  store-register-in = only (ltb r.object room.cells && _ && is_register r.register && _) (store_register r.object r.order r.register) (λ e. later room.cells r.object r.register small _ _ e)

  fence-in : In (fence_row r)
  fence-in = only (is_fence_order r.order && _) (fence r.order) (λ e. tt)

  unsync-load-in : In (unsync_load_row room.cells r)
  unsync-load-in = only (ltb r.object room.cells && is_register r.register && _) (unsync_load r.object r.register) (λ e. next room.cells r.object r.register small _ e)

  join-in : In (join_row room.threads r)
  join-in = only (ltb r.object room.threads && _) (join r.object) (λ e. below _ few (first _ _ e))

  jump_in : In (jump_row room.rows room.row r)
  jump_in = only (leb r.target room.rows && _ && _) (jump r.target) (λ e. tt)

  check-in : In (check_row r)
  check-in = only (is_register r.register && _) (check r.register r.a) (λ e. register _ (first _ _ e))

  spurious-in : In (spurious_row r)
  spurious-in = only (is_register r.register && _) (spurious r.register) (λ e. register _ (first _ _ e))

  plain-read-in : In (plain_read_row room.plains r)
  plain-read-in =
      only (ltb r.object room.plains && is_register r.register && _) (plain_read r.object r.register) (λ e. next room.plains r.object r.register plain _ e)

  plain-write-in : In (plain_write_row room.plains r)
  plain-write-in = only (ltb r.object room.plains && _) (plain_write r.object r.a) (λ e. below _ plain (first _ _ e))

  bare-in : (op : Op) → InRange op → In (bare_row op r)
  bare-in op h = only (eqb r.object 0 && _) op (λ e. h)

  jump-on-in : (op : ℕ → ℕ → ℕ → Op) → (r.register < 4 → InRange (op r.register r.a r.target)) → In (jump_on_row op room.rows r)
  jump-on-in op h = only (is_register r.register && _ && _) (op r.register r.a r.target) (λ e. h (register _ (first _ _ (first _ _ e))))

  row-in : In (row_decoded room r)
  unfolding row_decoded
  row-in =
      pick (eqb r.opcode 0) load-in
      (pick (eqb r.opcode 1) store_in
      (pick (eqb r.opcode 2) store-register-in
      (pick (eqb r.opcode 3) (rmw-in (change_decoded r.kind r.a r.b))
      (pick (eqb r.opcode 4) fence-in
      (pick (eqb r.opcode 5) unsync-load-in
      (pick (eqb r.opcode 6) (with-mut-in (change_decoded r.kind r.a r.b))
      (pick (eqb r.opcode 7) (bare-in yield tt)
      (pick (eqb r.opcode 8) join-in
      (pick (eqb r.opcode 9) jump_in
      (pick (eqb r.opcode 10) (jump-on-in jump_if (λ h. h))
      (pick (eqb r.opcode 11) (jump-on-in jump_unless (λ h. h))
      (pick (eqb r.opcode 12) check-in
      (pick (eqb r.opcode 13) (bare-in critical tt)
      (pick (eqb r.opcode 14) (bare-in explore_state tt)
      (pick (eqb r.opcode 15) (bare-in skip_branch tt)
      (pick (eqb r.opcode 16) spurious-in
      (pick (eqb r.opcode 17) plain-read-in
      (pick (eqb r.opcode 18) plain-write-in
      none))))))))))))))))))

module _ (t : List ℕ) (room : Room) (index : ℕ) where
  asked : (b : Bool) → b ≡ (leb room.threads max_threads && leb room.cells max_cells && leb room.plains max_plains) →
      In (cond b (row_decoded room (row_at t (room.cells + room.plains) index)) refused)
  asked true e =
      let few = leb room.threads max_threads in
      let small = leb room.cells max_cells in
      let plain = leb room.plains max_plains in
      let both : few && small ≡ true = first (few && small) plain (sym e) in
      row-in room _ (leb-true _ max_threads (first few small both)) (leb-true _ max_cells (second few small both))
      (leb-true _ max_plains (second (few && small) plain (sym e)))
  asked false e = none

  op-in : AllInRange (op_at t room index)
  unfolding op_at
  op-in = (asked _ refl).is

  -- so what is decoded is within
  pub op-made : (r : Option code.Op) → decoded_of r ≡ op_at t room index → OpAt t room index r
  op-made r e = record { is = e; within = rw e op-in }

pub op-moved : {t : List ℕ} {threads cells plains rows number first threads₁ cells₁ plains₁ rows₁ number₁ first₁ : ℕ} {r : Option code.Op} →
    threads ≡ threads₁ → cells ≡ cells₁ → plains ≡ plains₁ → rows ≡ rows₁ → number ≡ number₁ → first ≡ first₁ →
    OpAt t (record { threads = threads; cells = cells; plains = plains; rows = rows; row = number }) (first + number) r →
    OpAt t (record { threads = threads₁; cells = cells₁; plains = plains₁; rows = rows₁; row = number₁ }) (first₁ + number₁) r
op-moved p q l e f g o = rw (← p, ← q, ← l, ← e, ← f, ← g) o

-- for callers: what a row names, once it is taken apart
pub named-in-range : {t : List ℕ} {room : Room} {index : ℕ} {r : Option code.Op} {op taken : code.Op} →
    OpAt t room index r → r ≡ Some op → op ≡ taken → InRange (op_of taken)
named-in-range o e f = rw (← f) (rw e at o.within)
