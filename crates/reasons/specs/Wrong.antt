-- Which field of a refused row is wrong, and what it may be. Assumes nothing.
--     first_fields        a row of which only the first fields are looked at
--     is_opcode           whether there is such an opcode
--     wrong_in      the first field with which a row is refused
--     may_be        what that field may be
use Rattle.std.specs.Prelude.{ℕ, Result, Ok, Err, Bool, cond, ◌&&◌, ◌||◌, ltb, leb, eqb}
use Rattle.rules.specs.Table.{Row, Room, row_decoded, is_fine}
use Rattle.reasons.specs.declared.Field.{Field}
use Rattle.reasons.specs.declared.Field.TheVariants.{Opcode, Object, Order, Kind, Failure, Register, Target, A, B}
use Rattle.reasons.specs.declared.May.{May}
use Rattle.reasons.specs.declared.May.TheVariants as may
use Rattle.reasons.specs.declared.Unused.{Unused}
use Rattle.reasons.specs.declared.Unused.TheVariants.{ByOpcode, ByKind}

-- "fence 0" is refused: a fence has order 1 in a row of which the order is not looked at
abbrev pub blank_order : ℕ → ℕ
blank_order opcode = cond (eqb opcode 4) 1 0

-- a jump to itself is refused: at row 0 one leads to row 1 where the target is not looked at
abbrev pub blank_target : ℕ → ℕ → ℕ
blank_target opcode own = cond (eqb opcode 9 && eqb own 0) 1 0

-- the opcode and so many fields behind it, in the order in which they are judged: cell, plain cell or thread, order, change kind,
-- failure order, register, jump target, operands a and b. The others are as if they were not used. The row has this number in its thread
unfoldable pub first_fields : ℕ → Row → ℕ → Row
first_fields own r n = record {
  opcode = r.opcode;
  object = cond (ltb 0 n) r.object 0;
  order = cond (ltb 1 n) r.order (blank_order r.opcode);
  kind = cond (ltb 2 n) r.kind 0;
  failure = cond (ltb 3 n) r.failure 0;
  register = cond (ltb 4 n) r.register 0;
  target = cond (ltb 5 n) r.target (blank_target r.opcode own);
  a = cond (ltb 6 n) r.a 0;
  b = cond (ltb 7 n) r.b 0;
}

-- whether such a row is one, in this room
unfoldable pub is_fit : Room → Row → ℕ → Bool
is_fit room r n = is_fine (row_decoded room (first_fields room.row r n))

-- whether there is such an opcode, be there plain cells or not: a row of it is one where there is a plain cell to name
unfoldable pub is_opcode : Room → Row → Bool
is_opcode room r = is_fit (record { threads = room.threads; cells = room.cells; plains = 1; rows = room.rows; row = room.row }) r 0

-- the field with which it is refused first. Where all before it are fine it is operand b
unfoldable pub wrong_in : Room → Row → Field
wrong_in room r =
    cond (is_opcode room r)
    (cond (is_fit room r 1)
    (cond (is_fit room r 2)
    (cond (is_fit room r 3)
    (cond (is_fit room r 4)
    (cond (is_fit room r 5)
    (cond (is_fit room r 6)
    (cond (is_fit room r 7) B A)
    Target)
    Register)
    Failure)
    Kind)
    Order)
    Object)
    Opcode

-- the opcodes that name a cell, a plain cell, that have a register, that jump, that change
abbrev pub has_cell : ℕ → Bool
has_cell opcode = leb opcode 3 || eqb opcode 5 || eqb opcode 6

abbrev pub has_plain : ℕ → Bool
has_plain opcode = eqb opcode 17 || eqb opcode 18

abbrev pub is_jump : ℕ → Bool
is_jump opcode = eqb opcode 9 || eqb opcode 10 || eqb opcode 11

abbrev pub has_register : ℕ → Bool
has_register opcode =
    eqb opcode 0 || eqb opcode 2 || eqb opcode 3 || eqb opcode 5 || eqb opcode 6
    || eqb opcode 10 || eqb opcode 11 || eqb opcode 12 || eqb opcode 16 || eqb opcode 17

abbrev pub is_change : ℕ → Bool
is_change opcode = eqb opcode 3 || eqb opcode 6

abbrev pub may_object : ℕ → Result May Unused
may_object opcode =
    cond (has_cell opcode) (Ok may.AnyCell)
    (cond (has_plain opcode) (Ok may.AnyPlain)
    (cond (eqb opcode 8) (Ok may.AnyThread)
    (Err ByOpcode)))

-- "Refused: load or failure order 1 or 3, store order 2 or 3, fence 0."
abbrev pub may_order : ℕ → Result May Unused
may_order opcode =
    cond (eqb opcode 0) (Ok may.LoadOrder)
    (cond (eqb opcode 1 || eqb opcode 2) (Ok may.StoreOrder)
    (cond (eqb opcode 3) (Ok may.AnyOrder)
    (cond (eqb opcode 4) (Ok may.FenceOrder)
    (Err ByOpcode))))

-- "Only kinds 11 and 12 may fail, and only they, in RMW, use a failure order."
abbrev pub may_failure : ℕ → ℕ → Result May Unused
may_failure opcode kind =
    cond (eqb opcode 3) (cond (eqb kind 11 || eqb kind 12) (Ok may.LoadOrder) (Err ByKind)) (Err ByOpcode)

-- "a row that jumps unconditionally to its own row", "Refuse such a table with answer 5 at that row." (document 02, §6)
abbrev pub may_target : ℕ → Result May Unused
may_target opcode = cond (eqb opcode 9) (Ok may.OtherTarget) (cond (is_jump opcode) (Ok may.AnyTarget) (Err ByOpcode))

-- a field that only some opcodes use
abbrev pub used_if : Bool → May → Result May Unused
used_if test m = cond test (Ok m) (Err ByOpcode)

-- an operand is used by none, or it may be any number
abbrev pub may_operand : ℕ → Result May Unused
may_operand opcode = cond (is_change opcode) (Err ByKind) (Err ByOpcode)

-- "A cell or thread named must exist. Fields that the opcode or change kind doesn't use are zero"
abbrev pub may_be : Field → ℕ → ℕ → Result May Unused
may_be Opcode opcode kind = Ok may.AnyOpcode
may_be Object opcode kind = may_object opcode
may_be Order opcode kind = may_order opcode
may_be Kind opcode kind = used_if (is_change opcode) may.AnyKind
may_be Failure opcode kind = may_failure opcode kind
may_be Register opcode kind = used_if (has_register opcode) may.AnyRegister
may_be Target opcode kind = may_target opcode
may_be A opcode kind = may_operand opcode
may_be B opcode kind = may_operand opcode
