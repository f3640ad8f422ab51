-- The laws of rows: from what each call leaves to what the definition says of the row. Assumes nothing.
--     pends-none, pends-as          the pending operation of a row
--     begun-..                      a row that may not begin, one that sets no operation, one that does
--     begins-to                     a row that has begun and asks nothing acts: the definition's `begins`
--     done-as                       a row without slot and value
--     fences-as, yields-as          the fence, the yield
--     joins-..                      a join that goes through, and one that blocks
--     jumps-.., checks-..           by their test
--     number-of                     the number that a truth value is put as
--     explores-..                   the flag that is meant, and what comes of it
--     bit-..                        a row that is refused, one of another kind, and the bit
use Prim.Native.Nat.{ℕ, ◌+◌, ◌*◌, ◌≤◌, ◌<◌}
use mathlib.Core.List.{List, [], ◌∷◌}
use mathlib.Core.Bool.{Bool, true, false, cond, not}
use lib.Dec.{T, leb}
use Rattle.std.specs.Int.{from_bool}
use mathlib.Core.Path.{◌≡◌, refl, ap, sym, ◌∙◌}
use mathlib.Core.Logic.{◌≢◌}
use lib.ListN.{get_or, set}
use borrow.Author.Tests.{le-leb, lt-leb, eq-eqb, ne_eqb, not-true, not-false}
use mir.Val.{has_key}
use types.Run.{OneOf}
use denote.Enum.Declared.{tag_of}
use Rattle.rules.specs.Event as Event
use Rattle.rules.specs.Event.{Move, moves, stops}
use Rattle.rules.specs.Cell.{fenced}
use Rattle.rules.specs.State.{State, Clocks, Marks, Values, Numbers, number, with_number, rows_begun, rows_of, phase, operation, operates_on, exploring, skipping}
use Rattle.rules.specs.Machine as machine
use Rattle.rules.specs.Machine.{Role, loads, stores_operand, stores_register, modifies, takes_bit, otherwise, role_of, role_in, pending_as, Program, begins, begun_as, row_begun, with_operation, pending_of, done, completed, entry, no_slot, version_raised, fences, yield_done, schedules, joins, joined_with, blocked_on, jumps, checks, explores, bit_taken, is_in, ended, with_numbers}
use Rattle.rules.specs.Table.{cells_of, opcode_of, opcode_in}
use Rattle.rules.specs.Table as rules
use Rattle.rules.specs.Vector.{one_more, joined}
use Rattle.layout.specs.Tables.{state}
use Rattle.rules.proofs.RoleLaws.{Told, told, missed}
use Rattle.decode.specs.contracts.Op as Op
use Rattle.decode.proofs.NumberLaws.{all_but, by_number}
use Rattle.decode.specs.declared.Op.{Op}
use Rattle.decode.specs.declared.Op.TheVariants as code
use Rattle.std.specs.Prelude.{Option, Some, None}
use Rattle.decode.specs.Ops.{op_of, decoded_of, InRange, OpWithin}
use Rattle.std.specs.Prelude.{Option, Some, None}
use Rattle.layout.specs.declared.Operation.{Operation}
use Rattle.rows.specs.Begins.{pending_set, begun_to, then_acts}
use Rattle.rows.specs.Pendings.{Pends}

-- the rows that set no operation
abbrev others : List ℕ
others = all_but (0 ∷ 1 ∷ 2 ∷ 3 ∷ [])

pub pends-none : (op : Op) → OneOf others (tag_of Op.the_type op) → Pends None (pending_of (op_of op))
pends-none op k = by-role (role_of (op_of op)) (told (op_of op))
  where
    not-this : (m : rules.Op) → op_of op ≡ m → T (not (has_key others (opcode_of m))) → ⊥
    not-this m e h = missed others (op_of op) m e h (by_number others op k)

    by-role : (role : Role) → Told role (op_of op) → Pends None (pending_as role)
    by-role (loads c o r) e = absurd (not-this (rules.load c o r) e tt)
    by-role (stores_operand c o a) e = absurd (not-this (rules.store c o a) e tt)
    by-role (stores_register c o r) e = absurd (not-this (rules.store_register c o r) e tt)
    by-role (modifies c o f change r) e = absurd (not-this (rules.rmw c o f change r) e tt)
    by-role (takes_bit r) e = record { is = refl; within = tt }
    by-role otherwise e = record { is = refl; within = tt }

pub pends-as : (op m : Op) (r s : Option Operation) → op ≡ m → r ≡ s → InRange (op_of op) → (InRange (op_of m) → Pends s (pending_of (op_of m))) → Pends r (pending_of (op_of op))
pends-as op m r s e f within g = rw (e, f) (g (rw e at within))

module _ (r : Option Operation) (op : rules.Op) (means : Pends r (pending_of op)) where
  pub sets-none : r ≡ None → pending_of op ≡ machine.nothing
  sets-none e = let m : Pends None (pending_of op) = rw e at means in sym m.is

  module _ (o : Operation) (e : r ≡ Some o) where
    pub sets-one : pending_of op ≡ machine.pends o.action o.cell
    sets-one = let m : Pends (Some o) (pending_of op) = rw e at means in sym m.is

    pub sets-within : o.cell < 4
    sets-within = let m : Pends (Some o) (pending_of op) = rw e at means in m.within

-- A row begins

pub begun-not : (st : State) (t limit : ℕ) (op : rules.Op) → limit ≤ number st.numbers rows_begun → stops st Event.rows ≡ begun_to limit st t op
begun-not st t limit op h = rw (le-leb limit (number st.numbers rows_begun) h)

module _ (clocks : Clocks) (marks : Marks) (values : Values) (numbers : Numbers) (t all own limit : ℕ) (op : rules.Op)
    (counted : all ≡ one_more (number numbers rows_begun)) (mine : own ≡ one_more (number (with_number numbers rows_begun all) (rows_of t)))
    (fewer : number numbers rows_begun < limit) where
  begun-as : state clocks marks values (with_number (with_number (with_number numbers rows_begun all) (rows_of t) own) (phase t) machine.to_act) ≡ row_begun (state clocks marks values numbers) t
  begun-as = rw (mine, counted)

  may-begin : leb limit (number numbers rows_begun) ≡ false
  may-begin = lt-leb limit (number numbers rows_begun) fewer

  pub begun-bare : pending_of op ≡ machine.nothing →
      moves (state clocks marks values (with_number (with_number (with_number numbers rows_begun all) (rows_of t) own) (phase t) machine.to_act)) []
      ≡ begun_to limit (state clocks marks values numbers) t op
  begun-bare n = rw (may-begin, n) (ap (λ (st : State). moves st []) begun-as)

  pub begun-asking : (action cell : ℕ) → pending_of op ≡ machine.pends action cell →
      schedules (state clocks marks values (with_number (with_number (with_number (with_number (with_number numbers rows_begun all) (rows_of t) own) (phase t) machine.to_act) (operation t) action) (operates_on t) cell)) []
      ≡ begun_to limit (state clocks marks values numbers) t op
  begun-asking action cell n = rw (may-begin, n) (ap (λ (st : State). schedules (with_operation st t action cell) []) begun-as)

module _ (p : Program) (t k : ℕ) (op : rules.Op) where
  set-acts : (st : State) (x : machine.Pending) → begun_as p st t k op x ≡ then_acts p t k op (pending_set st t x)
  unfolding schedules
  set-acts st machine.nothing = refl
  set-acts st (machine.pends action c) = refl

  unless : (b : Bool) (st : State) (x y : Move State) → x ≡ then_acts p t k op y → cond b (stops st Event.rows) x ≡ then_acts p t k op (cond b (stops st Event.rows) y)
  unless true st x y e = refl
  unless false st x y e = e

  pub begins-to : (st : State) → begins p st t k op ≡ then_acts p t k op (begun_to p.operations st t op)
  unfolding begins
  begins-to st = unless (leb p.operations (number st.numbers rows_begun)) st _ _ (set-acts (row_begun st t) (pending_of op))

-- Rows that leave neither slot nor value

module _ (st left : State) (t k opcode : ℕ) where
  pub done-as : (next : ℕ) → next ≡ one_more k → left ≡ completed st t next → moves left (entry t k opcode no_slot 0 0) ≡ done st t k opcode
  done-as next n e = ap (λ (s : State). moves s (entry t k opcode no_slot 0 0)) (e ∙ ap (λ (x : ℕ). completed st t x) n)

  pub yields-as : (to : State) (next : ℕ) → next ≡ one_more k → left ≡ yield_done st t → to ≡ completed left t next →
      schedules to (entry t k opcode no_slot 0 0) ≡ schedules (completed (yield_done st t) t (one_more k)) (entry t k opcode no_slot 0 0)
  yields-as to next n e f =
      ap (λ (s : State). schedules s (entry t k opcode no_slot 0 0))
      (f ∙ ap (λ (s : State). completed s t next) e ∙ ap (λ (x : ℕ). completed (yield_done st t) t x) n)

  pub jumps-far : (taken : Bool) (target : ℕ) → not taken ≡ false → left ≡ completed st t target → moves left (entry t k opcode no_slot 0 0) ≡ jumps st t k opcode taken target
  jumps-far taken target n e = rw (not-false taken n) (ap (λ (s : State). moves s (entry t k opcode no_slot 0 0)) e)

  pub joins-blocked : (target : ℕ) (b : Bool) → b ≡ is_in st.numbers ended target → b ≡ false → left ≡ blocked_on st t target → schedules left [] ≡ joins st t k opcode target
  unfolding joins
  joins-blocked target b a n e = let f : is_in st.numbers ended target ≡ false = sym a ∙ n in rw f (ap (λ (s : State). schedules s []) e)

module _ (clocks up left : Clocks) (marks : Marks) (values : Values) (numbers : Numbers) (t k opcode : ℕ) (out : Move State)
    (is-done : out ≡ done (state left marks values numbers) t k opcode)
    (is_up : state up marks values numbers ≡ version_raised (state clocks marks values numbers) t) where
  is-raised : up ≡ (version_raised (state clocks marks values numbers) t).clocks
  is-raised = ap (λ (s : State). s.clocks) is_up

  pub fences-as : (p : Program) (cells o : ℕ) → cells_of p.table ≡ cells → left ≡ fenced up marks numbers t cells o → out ≡ done (fences p (state clocks marks values numbers) t o) t k opcode
  fences-as p cells o n e =
      let f : state left marks values numbers ≡ fences p (state clocks marks values numbers) t o = rw (e, is-raised, ← n) in
      is-done ∙ ap (λ (s : State). done s t k opcode) f

  pub joins-through : (target : ℕ) (b : Bool) (first : Clocks) → b ≡ is_in numbers ended target → b ≡ true →
      first ≡ set up (0 + t) (joined (get_or up (0 + t) []) (get_or up (0 + target) [])) →
      left ≡ set first (10 + t) (joined (get_or first (10 + t) []) (get_or first (10 + target) [])) →
      out ≡ joins (state clocks marks values numbers) t k opcode target
  unfolding joins
  joins-through target b first a y e f =
      let g : is_in numbers ended target ≡ true = sym a ∙ y in
      let h : state left marks values numbers ≡ joined_with (state clocks marks values numbers) t target = rw (f, e, is-raised) in
      rw g (is-done ∙ ap (λ (s : State). done s t k opcode) h)

-- Rows that are decided by a test

module _ (st : State) (t k opcode : ℕ) where
  pub checks-not : (holds : Bool) → not holds ≡ true → stops st Event.check ≡ checks st t k opcode holds
  checks-not holds n = rw (not-true holds n)

  module _ (out : Move State) (is-done : out ≡ done st t k opcode) where
    pub checks-on : (holds : Bool) → not holds ≡ false → out ≡ checks st t k opcode holds
    checks-on holds n = rw (not-false holds n) is-done

    pub jumps-on : (taken : Bool) (target : ℕ) → not taken ≡ true → out ≡ jumps st t k opcode taken target
    jumps-on taken target n = rw (not-true taken n) is-done

    pub explores-skipping : (on : Bool) → number st.numbers skipping ≡ 1 → out ≡ explores st t k opcode on
    explores-skipping on s = rw s is-done

  module _ (on : Bool) (flag : ℕ) (meant : flag ≡ cond on 1 0) (live : number st.numbers skipping ≢ 1) where
    pub explores-not : number st.numbers exploring ≡ flag → stops st Event.flags ≡ explores st t k opcode on
    explores-not e = rw (ne_eqb (number st.numbers skipping) 1 live, eq-eqb (number st.numbers exploring) (cond on 1 0) (e ∙ meant))

    pub explores-other : number st.numbers exploring ≢ flag → (out : Move State) → out ≡ done (with_numbers st (with_number st.numbers exploring flag)) t k opcode → out ≡ explores st t k opcode on
    explores-other n out e =
        rw (ne_eqb (number st.numbers skipping) 1 live, ne_eqb (number st.numbers exploring) (cond on 1 0) (λ h. n (h ∙ sym meant)), ← meant) e

-- the number that a truth value is put as
pub number-of : (b : Bool) (n : ℕ) → n ≡ from_bool b → n ≡ cond b 1 0
number-of true n e = e
number-of false n e = e

-- The bit

-- the rows that are given none
abbrev bitless : List ℕ
bitless = all_but (16 ∷ [])

module _ (st : State) (t k v : ℕ) where
  pub bit-refused : (row : Option Op) → row ≡ None → stops st Event.impossible ≡ bit_taken st t k v (role_in (decoded_of row))
  unfolding bit_taken
  bit-refused row e = rw e

  bit-none : (op : Op) → OneOf bitless (tag_of Op.the_type op) → stops st Event.impossible ≡ bit_taken st t k v (role_of (op_of op))
  unfolding bit_taken
  bit-none op h = by-role (role_of (op_of op)) (told (op_of op))
    where
      by-role : (role : Role) → Told role (op_of op) → stops st Event.impossible ≡ bit_taken st t k v role
      by-role (loads c o r) e = refl
      by-role (stores_operand c o a) e = refl
      by-role (stores_register c o r) e = refl
      by-role (modifies c o f change r) e = refl
      by-role (takes_bit r) e = absurd (missed bitless (op_of op) (rules.spurious r) e tt (by_number bitless op h))
      by-role otherwise e = refl

  pub bit-other : (row : Option Op) (op : Op) → row ≡ Some op → OneOf bitless (tag_of Op.the_type op) → stops st Event.impossible ≡ bit_taken st t k v (role_in (decoded_of row))
  bit-other row op e h = rw e (bit-none op h)

-- the register of a row that takes a bit
pub bit-within : (row : Option Op) (op : Op) (register : ℕ) → row ≡ Some op → op ≡ code.Spurious register → OpWithin row → register < 4
bit-within row op register e f w = rw (e ∙ ap Some f) at w

pub bit-taken : (clocks : Clocks) (marks : Marks) (values : Values) (numbers left : Numbers) (t k : ℕ) (row : Option Op) (op : Op) (register at v n next : ℕ) →
    row ≡ Some op → op ≡ code.Spurious register → at ≡ 4 * t + register → v ≡ n → next ≡ one_more k →
    state clocks marks (set values (28 + at) v) left ≡ completed (state clocks marks (set values (28 + at) v) numbers) t next →
    moves (state clocks marks (set values (28 + at) v) left) (entry t k (opcode_in (decoded_of row)) no_slot 0 v)
    ≡ bit_taken (state clocks marks values numbers) t k n (role_in (decoded_of row))
unfolding bit_taken
bit-taken clocks marks values numbers left t k row op register at v n next e f a b c d =
    let whole : row ≡ Some (code.Spurious register) = e ∙ ap Some f in
    let done : left ≡ (completed (state clocks marks values numbers) t next).numbers = ap (λ (s : State). s.numbers) d in
    rw (whole, done, c, a, b)
