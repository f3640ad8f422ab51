-- What is wrong with a field of a row, in words. Assumes nothing.
--     field_value    the number that stands in a field
--     field_name     the field's name
--     opcode_name    that of an opcode
--     put_may        what it may be
--     put_wrong      the field, what it is and what it may be, behind a line's end
use Rattle.std.specs.Prelude.{ℕ, zero, suc, List, [], ◌∷◌, Result, Ok, Err, cond, eqb}
use Prim.Native.String.{String}
use Rattle.rules.specs.Token.{bytes_of}
use Rattle.rules.specs.Table.{Row, Room}
use Rattle.page.specs.Pages.{Page, put_text, put_filled}
use Rattle.reasons.specs.Wrong.{has_cell, has_plain, may_be}
use Rattle.reasons.specs.declared.Field.{Field}
use Rattle.reasons.specs.declared.Field.TheVariants.{Opcode, Object, Order, Kind, Failure, Register, Target, A, B}
use Rattle.reasons.specs.declared.May.{May}
use Rattle.reasons.specs.declared.May.TheVariants as may
use Rattle.reasons.specs.declared.Unused.{Unused}
use Rattle.reasons.specs.declared.Unused.TheVariants.{ByOpcode, ByKind}

unfoldable pub field_value : Field → Row → ℕ
field_value Opcode r = r.opcode
field_value Object r = r.object
field_value Order r = r.order
field_value Kind r = r.kind
field_value Failure r = r.failure
field_value Register r = r.register
field_value Target r = r.target
field_value A r = r.a
field_value B r = r.b

-- a row names a cell, a plain cell, a thread, or none
abbrev pub object_name : ℕ → String
object_name opcode =
    cond (has_cell opcode) "cell"
    (cond (has_plain opcode) "plain cell"
    (cond (eqb opcode 8) "thread"
    "the cell, plain cell or thread"))

abbrev pub field_name : Field → ℕ → String
field_name Opcode opcode = "opcode"
field_name Object opcode = object_name opcode
field_name Order opcode = "order"
field_name Kind opcode = "change kind"
field_name Failure opcode = "failure order"
field_name Register opcode = "register"
field_name Target opcode = "jump target"
field_name A opcode = "operand a"
field_name B opcode = "operand b"

-- the part of a text that stands past n commas, up to the next
unfoldable pub part_past : ℕ → List ℕ → List ℕ
part_past n [] = []
part_past zero (b ∷ bs) = cond (eqb b 44) [] (b ∷ part_past zero bs)
part_past (suc n) (b ∷ bs) = cond (eqb b 44) (part_past n bs) (part_past (suc n) bs)

-- by its number; none past the last
abbrev pub opcode_name : ℕ → List ℕ
opcode_name opcode =
    part_past opcode
    (bytes_of "load,store,store of a register,change,fence,unsync_load,with_mut,yield,join,jump,jump if equal,jump if not equal,check,critical,explore_state,skip_branch,branch_spurious,plain read,plain write")

-- how many of them the table has
abbrev pub put_present : Page → ℕ → Page
put_present l n = put_filled l (bytes_of ": they count from 0, and the table has #") n 0 0

-- they count from 0, to the last
abbrev pub put_last : Page → ℕ → Page
put_last l last = put_filled l (bytes_of ": there are 0 to #") last 0 0

-- what it may be, where it is used
unfoldable pub put_may : Page → Room → May → Page
put_may l room may.AnyOpcode = put_last l 18
put_may l room may.AnyCell = put_present l room.cells
put_may l room may.AnyPlain = put_present l room.plains
put_may l room may.AnyThread = put_present l room.threads
put_may l room may.AnyOrder = put_last l 4
put_may l room may.LoadOrder = put_text l (bytes_of " that a load may have (0, 2 or 4)")
put_may l room may.StoreOrder = put_text l (bytes_of " that a store may have (0, 1 or 4)")
put_may l room may.FenceOrder = put_text l (bytes_of " that a fence may have (1 to 4)")
put_may l room may.AnyKind = put_last l 12
put_may l room may.AnyRegister = put_last l 3
put_may l room may.AnyTarget = put_filled l (bytes_of ": it may be up to #, the thread's end") room.rows 0 0
put_may l room may.OtherTarget =
    put_filled l (bytes_of ": it may be up to #, the thread's end, but not #: a jump to its own row never ends") room.rows room.row 0

-- a field that the opcode, which is named, does not use
unfoldable pub put_unused : Page → ℕ → ℕ → Page
put_unused l value opcode =
    put_text (put_text (put_filled l (bytes_of " is #, and opcode # (") value opcode 0) (opcode_name opcode))
    (bytes_of ") does not use it: it must be 0")

-- the value, and what it may be, or why it is not used
unfoldable pub put_value : Page → ℕ → Row → Room → Result May Unused → Page
put_value l value r room (Ok m) = put_may (put_filled l (bytes_of " # is none") value 0 0) room m
put_value l value r room (Err ByOpcode) = put_unused l value r.opcode
put_value l value r room (Err ByKind) =
    put_filled l (bytes_of " is #, and change kind # does not use it: it must be 0") value r.kind 0

unfoldable pub put_wrong : Page → Field → Row → Room → Page
put_wrong l field r room =
    put_value (put_text l (bytes_of (field_name field r.opcode))) (field_value field r) r room (may_be field r.opcode r.kind)
