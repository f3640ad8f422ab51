-- What the rows of this crate stand for in the definition, and what a row that is decoded names. Assumes nothing.
use Rattle.std.specs.Prelude.{◌<◌, Option, Some, None}
use Rattle.rules.specs.Table as rules
use Rattle.rules.specs.Change as changes
use Rattle.change.specs.declared.Change.{Change}
use Rattle.change.specs.Changes.{change_meant}
use Rattle.decode.specs.declared.Op.{Op}
use Rattle.decode.specs.declared.Op.TheVariants as code
use Rattle.decode.specs.declared.Row.{Row}
use Rattle.decode.specs.declared.Room.{Room}

abbrev pub op_of : Op → rules.Op
op_of (code.Load order cell register) = rules.load cell order register
op_of (code.Store order cell value) = rules.store cell order value
op_of (code.StoreRegister order cell register) = rules.store_register cell order register
op_of (code.Rmw order cell register change failure) = rules.rmw cell order failure (change_meant change) register
op_of (code.Fence order) = rules.fence order
op_of (code.UnsyncLoad cell register) = rules.unsync_load cell register
op_of (code.WithMut cell register change) = rules.with_mut cell (change_meant change) register
op_of code.Yield = rules.yield
op_of (code.Join thread) = rules.join thread
op_of (code.Jump target) = rules.jump target
op_of (code.JumpIf target register a) = rules.jump_if register a target
op_of (code.JumpUnless target register a) = rules.jump_unless register a target
op_of (code.Check register a) = rules.check register a
op_of code.Critical = rules.critical
op_of code.ExploreState = rules.explore_state
op_of code.SkipBranch = rules.skip_branch
op_of (code.Spurious register) = rules.spurious register
op_of (code.PlainRead plain register) = rules.plain_read plain register
op_of (code.PlainWrite plain value) = rules.plain_write plain value

abbrev pub decoded_of : Option Op → rules.Decoded rules.Op
decoded_of None = rules.refused
decoded_of (Some op) = rules.decoded (op_of op)

abbrev pub change_decoded_of : Option Change → rules.Decoded changes.Change
change_decoded_of None = rules.refused
change_decoded_of (Some change) = rules.decoded (change_meant change)

abbrev pub row_meant : Row → rules.Row
row_meant r = record {
  opcode = r.opcode;
  object = r.object;
  order = r.order;
  failure = r.failure;
  kind = r.kind;
  register = r.register;
  target = r.target;
  a = r.a;
  b = r.b;
}

abbrev pub room_meant : Room → rules.Room
room_meant r = record { threads = r.threads; cells = r.cells; plains = r.plains; rows = r.rows; row = r.row }

-- every cell, plain cell and register that is named is below 4, every thread below 5
abbrev pub InRange : rules.Op → Type 0
InRange (rules.load cell order register) = (cell < 4) × (register < 4)
InRange (rules.store cell order a) = cell < 4
InRange (rules.store_register cell order register) = (cell < 4) × (register < 4)
InRange (rules.rmw cell order failure change register) = (cell < 4) × (register < 4)
InRange (rules.fence order) = Unit
InRange (rules.unsync_load cell register) = (cell < 4) × (register < 4)
InRange (rules.with_mut cell change register) = (cell < 4) × (register < 4)
InRange rules.yield = Unit
InRange (rules.join thread) = thread < 5
InRange (rules.jump target) = Unit
InRange (rules.jump_if register a target) = register < 4
InRange (rules.jump_unless register a target) = register < 4
InRange (rules.check register a) = register < 4
InRange rules.critical = Unit
InRange rules.explore_state = Unit
InRange rules.skip_branch = Unit
InRange (rules.spurious register) = register < 4
InRange (rules.plain_read plain register) = (plain < 4) × (register < 4)
InRange (rules.plain_write plain a) = plain < 4

abbrev pub AllInRange : rules.Decoded rules.Op → Type 0
AllInRange rules.refused = Unit
AllInRange (rules.decoded op) = InRange op

abbrev pub OpWithin : Option Op → Type 0
OpWithin r = AllInRange (decoded_of r)
