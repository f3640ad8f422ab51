-- The laws of what a row does, and of how it goes on with an answer: from what the call of its arm leaves to what the definition
-- says of it. Assumes nothing.
--     op-within, slot-within         what an operation and an answer name
--     alone_of, asks-bit             the rows that an arm for all others takes together
--     act-as, asks-as, alone-as      a row that was taken apart
--     jumps-from, unless-from, checks-from     with the register that was read
--     answers-as                     an answer that was taken apart
use Prim.Native.Nat.{ℕ, ◌<◌}
use mathlib.Core.List.{List, [], ◌∷◌}
use mathlib.Core.Bool.{not}
use mathlib.Core.Path.{◌≡◌, refl, ap, sym, subst, ◌∙◌}
use mir.Val.{has_key}
use lib.Dec.{T, eqb}
use types.Run.{OneOf, miss}
use denote.Enum.Declared.{tag_of}
use Rattle.rules.specs.Event.{Matched, Move, asks, which_bit}
use Rattle.rules.specs.State.{State}
use Rattle.rules.specs.Machine.{Role, loads, stores_operand, stores_register, modifies, takes_bit, otherwise, role_of, Program, acts, acts_as, asks_slot, version_raised, exploring_now, jumps, checks}
use Rattle.rules.specs.Table.{opcode_of, decoded}
use Rattle.rules.specs.Table as rules
use Rattle.rules.proofs.RoleLaws.{Told, told, missed, elsewhere}
use Rattle.event.specs.declared.Picked.{Picked}
use Rattle.event.specs.declared.Picked.TheVariants as choice
use Rattle.event.specs.Moves.{Happening, move_of, matched_for}
use Rattle.decode.specs.contracts.Op as Op
use Rattle.decode.proofs.NumberLaws.{all_but, by_number, narrow}
use Rattle.decode.specs.declared.Op.{Op}
use Rattle.decode.specs.Ops.{op_of, InRange}
use Rattle.execution.specs.Alone.{alone, unsync, Unsync, Alone}
use Rattle.execution.specs.Answers.{Answers, ChoiceWithin}

pub op-within : (op m : Op) → op ≡ m → InRange (op_of op) → InRange (op_of m)
op-within op m e h = rw e at h

pub slot-within : (c : Picked) (slot mask : ℕ) → c ≡ choice.Slot slot mask → ChoiceWithin c → slot < 7
slot-within c slot mask e h = rw e at h

-- the places of the rows that access no cell without synchronisation, among the variants
abbrev apart : List ℕ
apart = all_but (5 ∷ 6 ∷ 17 ∷ 18 ∷ [])

pub alone_of : (op : Op) → OneOf apart (tag_of Op.the_type op) → Unsync (op_of op) → Alone (op_of op)
alone_of op k own = narrow apart unsync alone (opcode_of (op_of op)) tt (by_number apart op k) own

-- and of those that have no arm of their own among those that concern their thread alone
abbrev rest : List ℕ
rest = all_but (9 ∷ 10 ∷ 11 ∷ 12 ∷ 13 ∷ 14 ∷ 15 ∷ [])

module _ (p : Program) (st : State) (t k : ℕ) where
  abbrev asks_bit : Move State
  asks_bit = asks st [] (exploring_now st.numbers) which_bit

  spurious-asks : (r : ℕ) → asks_bit ≡ acts p st t k (rules.spurious r)
  unfolding acts_as
  spurious-asks r = refl

  pub asks-bit : (op : Op) → OneOf rest (tag_of Op.the_type op) → Alone (op_of op) → asks_bit ≡ acts p st t k (op_of op)
  asks-bit op n own = by-role (role_of (op_of op)) (told (op_of op))
    where
      not-this : (m : rules.Op) → op_of op ≡ m → T (not (has_key alone (opcode_of m))) → ⊥
      not-this m e h = missed alone (op_of op) m e h own

      is-16 : opcode_of (op_of op) ≡ 16
      is-16 = narrow rest alone (16 ∷ []) (opcode_of (op_of op)) tt (by_number rest op n) own

      by-role : (role : Role) → Told role (op_of op) → asks_bit ≡ acts p st t k (op_of op)
      by-role (loads c o r) e = absurd (not-this (rules.load c o r) e tt)
      by-role (stores_operand c o a) e = absurd (not-this (rules.store c o a) e tt)
      by-role (stores_register c o r) e = absurd (not-this (rules.store_register c o r) e tt)
      by-role (modifies c o f change r) e = absurd (not-this (rules.rmw c o f change r) e tt)
      by-role (takes_bit r) e = spurious-asks r ∙ ap (λ (m : rules.Op). acts p st t k m) (sym e)
      by-role otherwise e = absurd (miss elsewhere 16 tt (subst (λ (m : ℕ). OneOf elsewhere m) is-16 e))

module _ (p : Program) (r : Happening) (st left : State) (t k : ℕ) (op m : Op) (e : op ≡ m) where
  pub act-as : move_of r t k (opcode_of (op_of m)) (matched_for left t (decoded (op_of m))) left ≡ acts p st t k (op_of m) →
      move_of r t k (opcode_of (op_of op)) (matched_for left t (decoded (op_of op))) left ≡ acts p st t k (op_of op)
  act-as h = rw e h

  -- a row that asks for a slot is offered what the state that it leaves offers
  pub asks-as : ((offered : State → Matched) → move_of r t k (opcode_of (op_of m)) (offered left) left ≡ asks_slot (version_raised st t) (offered (version_raised st t))) →
      asks_slot (version_raised st t) (matched_for (version_raised st t) t (decoded (op_of m))) ≡ acts p st t k (op_of m) →
      move_of r t k (opcode_of (op_of op)) (matched_for left t (decoded (op_of op))) left ≡ acts p st t k (op_of op)
  asks-as f g = act-as (f (λ s. matched_for s t (decoded (op_of m))) ∙ g)

  pub alone-as : (offered : Matched) → move_of r t k (opcode_of (op_of m)) offered left ≡ acts p st t k (op_of m) → move_of r t k (opcode_of (op_of op)) offered left ≡ acts p st t k (op_of op)
  alone-as offered h = rw e h

module _ (out : Move State) (st : State) (t k n v w : ℕ) (is : v ≡ w) where
  pub jumps-from : (a target : ℕ) → out ≡ jumps st t k n (eqb v a) target → out ≡ jumps st t k n (eqb w a) target
  jumps-from a target h = h ∙ ap (λ (x : ℕ). jumps st t k n (eqb x a) target) is

  pub unless-from : (a target : ℕ) → out ≡ jumps st t k n (not (eqb v a)) target → out ≡ jumps st t k n (not (eqb w a)) target
  unless-from a target h = h ∙ ap (λ (x : ℕ). jumps st t k n (not (eqb x a)) target) is

  pub checks-from : (a : ℕ) → out ≡ checks st t k n (eqb v a) → out ≡ checks st t k n (eqb w a)
  checks-from a h = h ∙ ap (λ (x : ℕ). checks st t k n (eqb x a)) is

pub answers-as : (c m : Picked) (row : rules.Decoded rules.Op) (t k : ℕ) (st : State) (out : Move State) → c ≡ m → Answers m row t k st out → Answers c row t k st out
answers-as c m row t k st out e h = rw e h
