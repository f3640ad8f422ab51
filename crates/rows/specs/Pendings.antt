-- The pending operation that a row sets, as the function answers it. Assumes nothing.
use Rattle.std.specs.Prelude.{◌<◌, ◌≡◌, Option, Some, None}
use Rattle.rules.specs.Machine as rules
use Rattle.layout.specs.declared.Operation.{Operation}

abbrev pub pending_meant : Option Operation → rules.Pending
pending_meant None = rules.nothing
pending_meant (Some o) = rules.pends o.action o.cell

-- its cell is one
abbrev pub CellWithin : Option Operation → Type 0
CellWithin None = Unit
CellWithin (Some o) = o.cell < 4

pub record Pends (r : Option Operation) (pending : rules.Pending) : Type 0 where
  pub is : pending_meant r ≡ pending
  pub within : CellWithin r
