-- What the answers of this crate stand for in the definition. Assumes nothing.
--     point_of            a branch's position
--     OperationMeans     a thread's pending operation
--     BestWithin         the thread is one
use Rattle.std.specs.Prelude.{ℕ, ◌<◌, ◌≡◌, ◌≢◌, Option, Some, None}
use Rattle.rules.specs.Event as rules
use Rattle.rules.specs.State.{State}
use Rattle.rules.specs.Machine.{operation_of, cell_of, no_operation}
use Rattle.layout.specs.declared.Operation.{Operation}

abbrev pub point_of : Option ℕ → rules.Point
point_of None = rules.nowhere
point_of (Some n) = rules.branch n

-- a thread, if it is one, is one of the five
abbrev pub BestWithin : Option ℕ → Type 0
BestWithin None = Unit
BestWithin (Some t) = t < 5

-- an operation on a cell, as the thread's numbers have it
pub record On (st : State) (t action cell : ℕ) : Type 0 where
  pub is : operation_of st t ≡ action
  pub some : action ≢ no_operation
  pub on : cell_of st t ≡ cell
  pub within : cell < 4

abbrev pub OperationMeans : Option Operation → State → ℕ → Type 0
OperationMeans None st t = operation_of st t ≡ no_operation
OperationMeans (Some o) st t = On st t o.action o.cell
