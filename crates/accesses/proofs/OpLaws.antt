-- The laws of a row by its opcode: what a load or an RMW reads, that any other row reads nothing, and how each goes on with a
-- slot. Assumes nothing.
--     row_within, load-within, rmw-within, some-within     the cells and registers that are named
--     others                                             a row that is neither a load nor an RMW
--     load_read, rmw-read, other-read                    what is read
--     load-done, rmw-done                                the access
--     offers-none, offers-load, offers-rmw, offers-other     the stores that are offered
--     from-refused, from_nothing, from-dead, from-live       how a row goes on with a slot
use Prim.Native.Nat.{ℕ, ◌<◌}
use mathlib.Core.Bool.{Bool, true, false, not}
use mathlib.Core.List.{List, [], ◌∷◌}
use mathlib.Core.Path.{◌≡◌, refl, ap, sym, subst, ◌∙◌}
use mir.Val.{has_key}
use lib.Dec.{T, ltb}
use types.Run.{OneOf}
use denote.Enum.Declared.{tag_of}
use Rattle.rules.specs.Event as Event
use Rattle.rules.specs.Event.{Move, stops, slots_from}
use Rattle.rules.specs.State.{State, Clocks, Marks, Values, Numbers, marks_of, number, count}
use Rattle.rules.specs.Cell.{AccessResult, read, load_done, rmw_done, matched_load, matched_rmw}
use Rattle.rules.specs.Machine.{Role, loads, stores_operand, stores_register, modifies, takes_bit, otherwise, role_of, role_in, if_live, reads, read_from}
use Rattle.rules.specs.Table as Table
use Rattle.rules.specs.Table.{opcode_of, opcode_in}
use Rattle.rules.proofs.RoleLaws.{Told, told, missed}
use Rattle.layout.specs.Tables.{state}
use Rattle.matches.specs.Offers.{Scan, slots, offered}
use Rattle.event.specs.Moves.{offered_as, matched_for}
use Rattle.change.specs.declared.Change.{Change}
use Rattle.change.specs.Changes.{change_meant}
use Rattle.decode.specs.Ops.{op_of, decoded_of, InRange, OpWithin}
use Rattle.decode.specs.declared.Op.{Op}
use Rattle.decode.specs.declared.Op.TheVariants as code
use Rattle.decode.specs.contracts.Op.{the_type}
use Rattle.decode.proofs.NumberLaws.{all_but, by_number}
use Rattle.std.specs.Prelude.{Option, None, Some}
use Rattle.accesses.specs.Reads.{read_done, reading, reading_of, ReadWithin, Means}
use Rattle.accesses.specs.declared.Reading.{Reading}

-- What is named is in range

pub row_within : (row : Option Op) (op : Op) → row ≡ Some op → OpWithin row → InRange (op_of op)
row_within row op e h = subst (λ (d : Option Op). OpWithin d) e h

pub load-within : (op : Op) (c o r : ℕ) → op ≡ code.Load o c r → InRange (op_of op) → (c < 4) × (r < 4)
load-within op c o r e h = subst (λ (p : Op). InRange (op_of p)) e h

pub rmw-within : (op : Op) (c o f : ℕ) (change : Change) (r : ℕ) → op ≡ code.Rmw o c r change f → InRange (op_of op) → (c < 4) × (r < 4)
rmw-within op c o f change r e h = subst (λ (p : Op). InRange (op_of p)) e h

pub some-within : (r : Option Reading) (s : Reading) → r ≡ Some s → ReadWithin r → (s.cell < 4) × (s.register < 4)
some-within r s e h = subst (λ (x : Option Reading). ReadWithin x) e h

-- Neither a load nor an RMW

-- the places of those opcodes among the variants
abbrev neither : List ℕ
neither = all_but (0 ∷ 3 ∷ [])

pub record Other (role : Role) : Type 0 where
  pub nothing : None ≡ reading_of role
  pub done : (st : State) (t slot : ℕ) → read 0 st ≡ read_done st t slot role
  pub offers : (st : State) (t : ℕ) → offered_as st t role ≡ Event.offers []

pub others : (op : Op) → OneOf neither (tag_of the_type op) → Other (role_of (op_of op))
others op k = by-role (role_of (op_of op)) (told (op_of op))
  where
    not-this : (m : Table.Op) → op_of op ≡ m → T (not (has_key neither (opcode_of m))) → ⊥
    not-this m e h = missed neither (op_of op) m e h (by_number neither op k)

    by-role : (role : Role) → Told role (op_of op) → Other role
    by-role (loads c o r) e = absurd (not-this (Table.load c o r) e tt)
    by-role (stores_operand c o a) e = record { nothing = refl; done = λ st t slot. refl; offers = λ st t. refl }
    by-role (stores_register c o r) e = record { nothing = refl; done = λ st t slot. refl; offers = λ st t. refl }
    by-role (modifies c o f change r) e = absurd (not-this (Table.rmw c o f change r) e tt)
    by-role (takes_bit r) e = record { nothing = refl; done = λ st t slot. refl; offers = λ st t. refl }
    by-role otherwise e = record { nothing = refl; done = λ st t slot. refl; offers = λ st t. refl }

-- What is read

pub load_read : (op : Op) (c o r : ℕ) → op ≡ code.Load o c r → InRange (op_of op) → Means (Some (reading c r)) (role_of (op_of op))
load_read op c o r e h = record { is = sym (ap (λ (p : Op). reading_of (role_of (op_of p))) e); within = load-within op c o r e h }

pub rmw-read : (op : Op) (c o f : ℕ) (change : Change) (r : ℕ) → op ≡ code.Rmw o c r change f → InRange (op_of op) → Means (Some (reading c r)) (role_of (op_of op))
rmw-read op c o f change r e h =
    record { is = sym (ap (λ (p : Op). reading_of (role_of (op_of p))) e); within = rmw-within op c o f change r e h }

pub other-read : (op : Op) → OneOf neither (tag_of the_type op) → Means None (role_of (op_of op))
other-read op e = record { is = (others op e).nothing; within = tt }

module _ (st : State) (t slot : ℕ) (x : AccessResult) (op : Op) (c o : ℕ) where
  pub load-done : (r : ℕ) → op ≡ code.Load o c r → x ≡ load_done st t c slot o → x ≡ read_done st t slot (role_of (op_of op))
  load-done r e f = f ∙ sym (ap (λ (p : Op). read_done st t slot (role_of (op_of p))) e)

  pub rmw-done : (f : ℕ) (change : Change) (r : ℕ) → op ≡ code.Rmw o c r change f →
      x ≡ rmw_done st t c slot (change_meant change) o f → x ≡ read_done st t slot (role_of (op_of op))
  rmw-done f change r e g = g ∙ sym (ap (λ (p : Op). read_done st t slot (role_of (op_of p))) e)

-- What is offered

module _ (clocks : Clocks) (marks : Marks) (values : Values) (numbers : Numbers) (t : ℕ) (dst : List ℕ) where
  none : slots 0 dst ≡ offered (Event.offers []) dst
  unfolding slots_from
  none = refl

  pub offers-none : (row : Option Op) → row ≡ None → slots 0 dst ≡ offered (matched_for (state clocks marks values numbers) t (decoded_of row)) dst
  offers-none row e = none ∙ sym (ap (λ (d : Option Op). offered (matched_for (state clocks marks values numbers) t (decoded_of d)) dst) e)

  module _ (row : Option Op) (op : Op) (says : row ≡ Some op) where
    -- of the row, what there is of its opcode
    there : (x : Scan) → x ≡ offered (matched_for (state clocks marks values numbers) t (Table.decoded (op_of op))) dst →
        x ≡ offered (matched_for (state clocks marks values numbers) t (decoded_of row)) dst
    there x f = f ∙ sym (ap (λ (d : Option Op). offered (matched_for (state clocks marks values numbers) t (decoded_of d)) dst) says)

    pub offers-load : (c o r : ℕ) → op ≡ code.Load o c r → (x : Scan) →
        x ≡ offered (matched_load clocks (marks_of marks c) numbers t c o) dst →
        x ≡ offered (matched_for (state clocks marks values numbers) t (decoded_of row)) dst
    offers-load c o r e x f =
        there x (f ∙ sym (ap (λ (p : Op). offered (matched_for (state clocks marks values numbers) t (Table.decoded (op_of p))) dst) e))

    pub offers-rmw : (c o f : ℕ) (change : Change) (r : ℕ) → op ≡ code.Rmw o c r change f → (x : Scan) →
        x ≡ offered (matched_rmw clocks numbers c) dst →
        x ≡ offered (matched_for (state clocks marks values numbers) t (decoded_of row)) dst
    offers-rmw c o f change r e x g =
        there x (g ∙ sym (ap (λ (p : Op). offered (matched_for (state clocks marks values numbers) t (Table.decoded (op_of p))) dst) e))

    pub offers-other : OneOf neither (tag_of the_type op) → slots 0 dst ≡ offered (matched_for (state clocks marks values numbers) t (decoded_of row)) dst
    offers-other e = there (slots 0 dst) (none ∙ sym (ap (λ (m : Event.Matched). offered m dst) ((others op e).offers (state clocks marks values numbers) t)))

-- How a row goes on with a slot

-- by the cell and the register that it reads
abbrev reading_from : Option Reading → State → ℕ → ℕ → ℕ → ℕ → Table.Op → Move State
reading_from None st t k slot mask op = stops st Event.impossible
reading_from (Some r) st t k slot mask op =
    if_live st r.cell slot (reads (read_done st t slot (role_of op)) t k (opcode_of op) r.register slot mask)

module _ (st : State) (t k slot mask : ℕ) where
  by-reading : (op : Table.Op) → read_from st t k slot mask (role_of op) ≡ reading_from (reading_of (role_of op)) st t k slot mask op
  unfolding read_from
  by-reading op = by-role (role_of op) refl (told op)
    where
      by-role : (role : Role) → role_of op ≡ role → Told role op → read_from st t k slot mask role ≡ reading_from (reading_of role) st t k slot mask op
      by-role (loads c o r) e is = rw is
      by-role (stores_operand c o a) e is = refl
      by-role (stores_register c o r) e is = refl
      by-role (modifies c o f change r) e is = rw is
      by-role (takes_bit r) e is = refl
      by-role otherwise e is = refl

  pub from-refused : (row : Option Op) → row ≡ None → stops st Event.impossible ≡ read_from st t k slot mask (role_in (decoded_of row))
  unfolding read_from
  from-refused row e = sym (ap (λ (d : Option Op). read_from st t k slot mask (role_in (decoded_of d))) e)

  module _ (row : Option Op) (op : Op) (says : row ≡ Some op) (r : Option Reading) (is : r ≡ reading_of (role_of (op_of op))) where
    -- of the row, by what was found that it reads
    by-found : (found : Option Reading) → r ≡ found → read_from st t k slot mask (role_in (decoded_of row)) ≡ reading_from found st t k slot mask (op_of op)
    by-found found e =
        ap (λ (d : Option Op). read_from st t k slot mask (role_in (decoded_of d))) says
        ∙ by-reading (op_of op)
        ∙ ap (λ (x : Option Reading). reading_from x st t k slot mask (op_of op)) (sym is ∙ e)

    pub from_nothing : r ≡ None → stops st Event.impossible ≡ read_from st t k slot mask (role_in (decoded_of row))
    from_nothing e = sym (by-found None e)

    module _ (s : Reading) (e : r ≡ Some s) (b : Bool) (live : b ≡ ltb slot (number st.numbers (count s.cell))) where
      pub from-dead : b ≡ false → stops st Event.impossible ≡ read_from st t k slot mask (role_in (decoded_of row))
      from-dead f = rw (by-found (Some s) e, ← live, f)

      pub from-live : b ≡ true → (x : AccessResult) → x ≡ read_done st t slot (role_of (op_of op)) → (move : Move State) →
          move ≡ reads x t k (opcode_in (decoded_of row)) s.register slot mask → move ≡ read_from st t k slot mask (role_in (decoded_of row))
      from-live f x g move p =
          let q : move ≡ reads x t k (opcode_of (op_of op)) s.register slot mask =
          subst (λ (d : Option Op). move ≡ reads x t k (opcode_in (decoded_of d)) s.register slot mask) says p in
          rw (by-found (Some s) e, ← live, f, ← g) q
