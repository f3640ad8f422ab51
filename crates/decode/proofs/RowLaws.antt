-- Laws for what a row says. Assumes nothing.
--     arm, beyond, change-arm, change-beyond     the match on an opcode, and on a change kind
--     fine                                       whether a row says something
--     meant, told                                what was taken apart
--     load-made .. plain-write-made              a row of each opcode, its tests as the code groups them
--     fields_told, rmw-judged                    an RMW's tests alone
use Prim.Native.Nat.{ℕ, zero, suc, ◌≤◌, ◌<◌, zero-le}
use native.Mathlib.Omega.{arith}
use mathlib.Core.Bool.{Bool, true, false, not, ◌&&◌, and_assoc, and-true}
use mathlib.Core.Path.{◌≡◌, refl, ◌∙◌}
use lib.Dec.{ltb, leb, eqb}
use borrow.Author.Tests.{ne_eqb}
use Rattle.std.specs.Prelude.{Option, Some, None, is_some}
use Rattle.std.specs.Bool.{then_some}
use Rattle.rules.specs.Change as rules
use Rattle.change.specs.declared.Change as change
use Rattle.change.specs.Changes.{change_meant}
use Rattle.decode.specs.declared.Op as code
use Rattle.decode.specs.Ops.{op_of, decoded_of, change_decoded_of}
use Rattle.rules.specs.Table.{Row, Room, Op, Decoded, refused, decoded, only_if, row_decoded, change_decoded, load_row, store_row, store_register_row, rmw_row, fence_row, unsync_load_row, with_mut_row, opcode_of, is_fine, bare_row, join_row, jump_row, jump_on_row, check_row, spurious_row, plain_read_row, plain_write_row, any_order, is_load_order, is_store_order, is_fence_order, is_failure_order, is_register, load, store, store_register, rmw, fence, unsync_load, with_mut, join, jump, check, spurious, plain_read, plain_write}

-- what the last arm of a match knows of x, that it is none of the numbers below n, in the form that a match hands over
abbrev pub NoneBelow : ℕ → ℕ → Type 0
NoneBelow zero x = Unit
NoneBelow (suc n) x = NoneBelow n x × (x ≡ n → ⊥)

pub none_below : (n x : ℕ) → NoneBelow n x → n ≤ x
none_below zero x h = zero-le
none_below (suc n) x h = let l = none_below n x h.0 in let d = h.1 in omega arith

past : {n x i : ℕ} → n ≤ x → i < n → eqb x i ≡ false
past {n} {x} {i} h l = ne_eqb x i (λ (e : x ≡ i). omega arith)

-- a row as one of another opcode
abbrev pub with_opcode : ℕ → Row → Row
with_opcode k r = record {
  opcode = k;
  object = r.object;
  order = r.order;
  failure = r.failure;
  kind = r.kind;
  register = r.register;
  target = r.target;
  a = r.a;
  b = r.b;
}

module _ (room : Room) (r : Row) where
  -- an arm: what a row says as one of the opcode that it has
  pub arm : (k : ℕ) (d : Decoded Op) → r.opcode ≡ k → d ≡ row_decoded room (with_opcode k r) → d ≡ row_decoded room r
  arm k d e h = rw e h

  -- where a change is asked for, the row stays in the question
  pub rmw-arm : (d : Decoded Op) → r.opcode ≡ 3 → d ≡ rmw_row room.cells r (change_decoded r.kind r.a r.b) → d ≡ row_decoded room r
  unfolding row_decoded
  rmw-arm d e h = rw e (rw e at h)

  pub with-mut-arm : (d : Decoded Op) → r.opcode ≡ 6 → d ≡ with_mut_row room.cells r (change_decoded r.kind r.a r.b) → d ≡ row_decoded room r
  unfolding row_decoded
  with-mut-arm d e h = rw e (rw e at h)

  -- the arm of refusals
  pub beyond : 19 ≤ r.opcode → refused ≡ row_decoded room r
  unfolding row_decoded
  beyond h =
      rw
      (past {i = 0} h (omega arith), past {i = 1} h (omega arith), past {i = 2} h (omega arith), past {i = 3} h (omega arith), past {i = 4} h (omega arith), past {i = 5} h (omega arith), past {i = 6} h (omega arith), past {i = 7} h (omega arith), past {i = 8} h (omega arith), past {i = 9} h (omega arith), past {i = 10} h (omega arith), past {i = 11} h (omega arith), past {i = 12} h (omega arith), past {i = 13} h (omega arith), past {i = 14} h (omega arith), past {i = 15} h (omega arith), past {i = 16} h (omega arith), past {i = 17} h (omega arith), past {i = 18} h (omega arith))

module _ (kind a b : ℕ) where
  pub change-arm : (k : ℕ) (d : Decoded rules.Change) → kind ≡ k → d ≡ change_decoded k a b → d ≡ change_decoded kind a b
  change-arm k d e h = rw e h

  pub change-beyond : 13 ≤ kind → refused ≡ change_decoded kind a b
  unfolding change_decoded
  change-beyond h =
      rw
      (past {i = 0} h (omega arith), past {i = 1} h (omega arith), past {i = 2} h (omega arith), past {i = 3} h (omega arith), past {i = 4} h (omega arith), past {i = 5} h (omega arith), past {i = 6} h (omega arith), past {i = 7} h (omega arith), past {i = 8} h (omega arith), past {i = 9} h (omega arith), past {i = 10} h (omega arith), past {i = 11} h (omega arith), past {i = 12} h (omega arith))

-- whether a row says something, by what it says
pub fine : {b : Bool} {d e : Decoded Op} → b ≡ is_fine d → d ≡ e → b ≡ is_fine e
fine h e = rw (← e) h

pub some-fine : {b : Bool} (d : Option code.Op) {e : Decoded Op} → b ≡ is_some d → decoded_of d ≡ e → b ≡ is_fine e
some-fine None h e = rw (← e) h
some-fine (Some op) h e = rw (← e) h

-- what was taken apart: a change, an op
pub meant : {x y : Option change.Change} {d : Decoded rules.Change} → x ≡ y → change_decoded_of x ≡ d → change_decoded_of y ≡ d
meant e f = rw (← e) f

-- an op, and a change, where a test is passed
pub then-op : (b : Bool) (op : code.Op) {r : Option code.Op} → r ≡ then_some b op → decoded_of r ≡ only_if b (op_of op)
then-op true op e = rw e
then-op false op e = rw e

pub then-change : (b : Bool) (x : change.Change) {r : Option change.Change} → r ≡ then_some b x → change_decoded_of r ≡ only_if b (change_meant x)
then-change true x e = rw e
then-change false x e = rw e

pub told : {x y : code.Op} (n : ℕ) → x ≡ y → n ≡ opcode_of (op_of y) → n ≡ opcode_of (op_of x)
told n e f = rw e f

-- A row of each opcode, by what its tests answered

-- no change kind and no failure order; no operands
abbrev pub unchanging : Row → Bool
unchanging r = eqb r.failure 0 && eqb r.kind 0

abbrev pub bare : Row → Bool
bare r = eqb r.a 0 && eqb r.b 0

pub load-made : (cells : ℕ) (r : Row) {n o g p q : Bool} {cell register : ℕ} {d : Decoded Op} →
    d ≡ only_if (n && o && g && p && eqb r.target 0 && q) (load cell r.order register) →
    n ≡ ltb r.object cells → o ≡ is_load_order r.order → g ≡ is_register r.register → p ≡ unchanging r → q ≡ bare r → cell ≡ r.object → register ≡ r.register →
    d ≡ load_row cells r
load-made cells r h e0 e1 e2 e3 e4 e5 e6 = h ∙ rw (e0, e1, e2, e3, e4, e5, e6) (simp (and_assoc, and-true))

pub store-made : (cells : ℕ) (r : Row) {n o p : Bool} {cell : ℕ} {d : Decoded Op} →
    d ≡ only_if (n && o && p && eqb r.register 0 && eqb r.target 0 && eqb r.b 0) (store cell r.order r.a) →
    n ≡ ltb r.object cells → o ≡ is_store_order r.order → p ≡ unchanging r → cell ≡ r.object →
    d ≡ store_row cells r
store-made cells r h e0 e1 e2 e3 = h ∙ rw (e0, e1, e2, e3) (simp (and_assoc, and-true))

pub store-register-made : (cells : ℕ) (r : Row) {n o g p q : Bool} {cell register : ℕ} {d : Decoded Op} →
    d ≡ only_if (n && o && g && p && eqb r.target 0 && q) (store_register cell r.order register) →
    n ≡ ltb r.object cells → o ≡ is_store_order r.order → g ≡ is_register r.register → p ≡ unchanging r → q ≡ bare r → cell ≡ r.object → register ≡ r.register →
    d ≡ store_register_row cells r
store-register-made cells r h e0 e1 e2 e3 e4 e5 e6 = h ∙ rw (e0, e1, e2, e3, e4, e5, e6) (simp (and_assoc, and-true))

-- the fields of an RMW beside its change
abbrev pub rmw_fields : ℕ → Row → Bool
rmw_fields cells r = ltb r.object cells && any_order r.order && is_failure_order r.kind r.failure && is_register r.register && eqb r.target 0

pub fields_told : (cells : ℕ) (r : Row) {n f g : Bool} →
    n ≡ ltb r.object cells → f ≡ is_failure_order r.kind r.failure → g ≡ is_register r.register →
    n && any_order r.order && f && g && eqb r.target 0 ≡ rmw_fields cells r
fields_told cells r e0 e1 e2 = rw (e0, e1, e2)

pub rmw-made : (cells : ℕ) (r : Row) {t : Bool} {cell register : ℕ} {d : Decoded Op} {w : Decoded rules.Change} {change : rules.Change} →
    d ≡ only_if t (rmw cell r.order r.failure change register) →
    decoded change ≡ w → t ≡ rmw_fields cells r → cell ≡ r.object → register ≡ r.register →
    d ≡ rmw_row cells r w
rmw-made cells r h w e0 e1 e2 = h ∙ rw (e0, e1, e2, ← w) (simp (and_assoc, and-true))

fine-only : (b : Bool) (x : Op) → b ≡ is_fine (only_if b x)
fine-only true x = refl
fine-only false x = refl

pub rmw-judged : (cells : ℕ) (r : Row) {s t : Bool} {w : Decoded rules.Change} (change : Option change.Change) →
    s ≡ is_some change → change_decoded_of change ≡ w → t ≡ rmw_fields cells r → s && t ≡ is_fine (rmw_row cells r w)
rmw-judged cells r None e f h = rw (e, ← f)
rmw-judged cells r {s} {t} {w} (Some change) e f h =
    rw e
    (h ∙ fine-only (rmw_fields cells r) (rmw r.object r.order r.failure (change_meant change) r.register) ∙ rw (← f) (simp (and_assoc, and-true)))

pub rmw-refused : (cells : ℕ) (r : Row) {w : Decoded rules.Change} → refused ≡ w → refused ≡ rmw_row cells r w
rmw-refused cells r w = rw (← w)

pub unsync-load-made : (cells : ℕ) (r : Row) {n g p q : Bool} {cell register : ℕ} {d : Decoded Op} →
    d ≡ only_if (n && g && eqb r.order 0 && p && eqb r.target 0 && q) (unsync_load cell register) →
    n ≡ ltb r.object cells → g ≡ is_register r.register → p ≡ unchanging r → q ≡ bare r → cell ≡ r.object → register ≡ r.register →
    d ≡ unsync_load_row cells r
unsync-load-made cells r h e0 e1 e2 e3 e4 e5 = h ∙ rw (e0, e1, e2, e3, e4, e5) (simp (and_assoc, and-true))

pub with-mut-made : (cells : ℕ) (r : Row) {n g : Bool} {cell register : ℕ} {d : Decoded Op} {w : Decoded rules.Change} {change : rules.Change} →
    d ≡ only_if (n && g && eqb r.order 0 && eqb r.failure 0 && eqb r.target 0) (with_mut cell change register) →
    decoded change ≡ w → n ≡ ltb r.object cells → g ≡ is_register r.register → cell ≡ r.object → register ≡ r.register →
    d ≡ with_mut_row cells r w
with-mut-made cells r h w e0 e1 e2 e3 = h ∙ rw (e0, e1, e2, e3, ← w) (simp (and_assoc, and-true))

pub with-mut-refused : (cells : ℕ) (r : Row) {w : Decoded rules.Change} → refused ≡ w → refused ≡ with_mut_row cells r w
with-mut-refused cells r w = rw (← w)

pub fence-made : (r : Row) {o p q : Bool} {d : Decoded Op} →
    d ≡ only_if (o && eqb r.object 0 && p && eqb r.register 0 && eqb r.target 0 && q) (fence r.order) →
    o ≡ is_fence_order r.order → p ≡ unchanging r → q ≡ bare r →
    d ≡ fence_row r
fence-made r h e0 e1 e2 = h ∙ rw (e0, e1, e2) (simp (and_assoc, and-true))

pub bare-made : (r : Row) (op : Op) {p q : Bool} {d : Decoded Op} →
    d ≡ only_if (eqb r.object 0 && eqb r.order 0 && p && eqb r.register 0 && eqb r.target 0 && q) (op) →
    p ≡ unchanging r → q ≡ bare r →
    d ≡ bare_row op r
bare-made r op h e0 e1 = h ∙ rw (e0, e1) (simp (and_assoc, and-true))

pub join-made : (threads : ℕ) (r : Row) {n p q : Bool} {cell : ℕ} {d : Decoded Op} →
    d ≡ only_if (n && eqb r.order 0 && p && eqb r.register 0 && eqb r.target 0 && q) (join cell) →
    n ≡ ltb r.object threads → p ≡ unchanging r → q ≡ bare r → cell ≡ r.object →
    d ≡ join_row threads r
join-made threads r h e0 e1 e2 e3 = h ∙ rw (e0, e1, e2, e3) (simp (and_assoc, and-true))

pub jump-made : (count own : ℕ) (r : Row) {t o p q : Bool} {d : Decoded Op} →
    d ≡ only_if (t && o && eqb r.object 0 && eqb r.order 0 && p && eqb r.register 0 && q) (jump r.target) →
    t ≡ leb r.target count → o ≡ not (eqb r.target own) → p ≡ unchanging r → q ≡ bare r →
    d ≡ jump_row count own r
jump-made count own r h e0 e1 e2 e3 = h ∙ rw (e0, e1, e2, e3) (simp (and_assoc, and-true))

pub jump-on-made : (count : ℕ) (r : Row) (op : Op) {g t p : Bool} {d : Decoded Op} →
    d ≡ only_if (g && t && eqb r.object 0 && eqb r.order 0 && p && eqb r.b 0) (op) →
    g ≡ is_register r.register → t ≡ leb r.target count → p ≡ unchanging r →
    d ≡ jump_on_row (λ (register a target : ℕ). op) count r
jump-on-made count r op h e0 e1 e2 = h ∙ rw (e0, e1, e2) (simp (and_assoc, and-true))

pub check-made : (r : Row) {g p : Bool} {register : ℕ} {d : Decoded Op} →
    d ≡ only_if (g && eqb r.object 0 && eqb r.order 0 && p && eqb r.target 0 && eqb r.b 0) (check register r.a) →
    g ≡ is_register r.register → p ≡ unchanging r → register ≡ r.register →
    d ≡ check_row r
check-made r h e0 e1 e2 = h ∙ rw (e0, e1, e2) (simp (and_assoc, and-true))

pub spurious-made : (r : Row) {g p q : Bool} {register : ℕ} {d : Decoded Op} →
    d ≡ only_if (g && eqb r.object 0 && eqb r.order 0 && p && eqb r.target 0 && q) (spurious register) →
    g ≡ is_register r.register → p ≡ unchanging r → q ≡ bare r → register ≡ r.register →
    d ≡ spurious_row r
spurious-made r h e0 e1 e2 e3 = h ∙ rw (e0, e1, e2, e3) (simp (and_assoc, and-true))

pub plain-read-made : (plains : ℕ) (r : Row) {n g p q : Bool} {cell register : ℕ} {d : Decoded Op} →
    d ≡ only_if (n && g && eqb r.order 0 && p && eqb r.target 0 && q) (plain_read cell register) →
    n ≡ ltb r.object plains → g ≡ is_register r.register → p ≡ unchanging r → q ≡ bare r → cell ≡ r.object → register ≡ r.register →
    d ≡ plain_read_row plains r
plain-read-made plains r h e0 e1 e2 e3 e4 e5 = h ∙ rw (e0, e1, e2, e3, e4, e5) (simp (and_assoc, and-true))

pub plain-write-made : (plains : ℕ) (r : Row) {n p : Bool} {cell : ℕ} {d : Decoded Op} →
    d ≡ only_if (n && eqb r.order 0 && p && eqb r.register 0 && eqb r.target 0 && eqb r.b 0) (plain_write cell r.a) →
    n ≡ ltb r.object plains → p ≡ unchanging r → cell ≡ r.object →
    d ≡ plain_write_row plains r
plain-write-made plains r h e0 e1 e2 = h ∙ rw (e0, e1, e2) (simp (and_assoc, and-true))
