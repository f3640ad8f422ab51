-- What a row reads, if it is a load or an RMW. Assumes nothing.
--     read_done          the access, with a slot; of another row none is made
--     Means             the cell and the register
use Rattle.std.specs.Prelude.{ℕ, ◌<◌, ◌≡◌, Option, Some, None}
use Rattle.rules.specs.Cell.{AccessResult, read, load_done, rmw_done}
use Rattle.rules.specs.State.{State}
use Rattle.rules.specs.Machine.{Role, loads, stores_operand, stores_register, modifies, takes_bit, otherwise}
use Rattle.accesses.specs.declared.Reading.{Reading}

-- the load or the RMW of a thread, of a slot
abbrev pub read_done : State → ℕ → ℕ → Role → AccessResult
read_done st t slot (loads c o r) = load_done st t c slot o
read_done st t slot (modifies c o f change r) = rmw_done st t c slot change o f
read_done st t slot (stores_operand c o a) = read 0 st
read_done st t slot (stores_register c o r) = read 0 st
read_done st t slot (takes_bit r) = read 0 st
read_done st t slot otherwise = read 0 st

-- the cell and the register of a load or an RMW; nothing of another row
abbrev pub reading : ℕ → ℕ → Reading
reading c r = record { cell = c; register = r }

abbrev pub reading_of : Role → Option Reading
reading_of (loads c o r) = Some (reading c r)
reading_of (modifies c o f change r) = Some (reading c r)
reading_of (stores_operand c o a) = None
reading_of (stores_register c o r) = None
reading_of (takes_bit r) = None
reading_of otherwise = None

-- they are a cell and a register that there are
abbrev pub ReadWithin : Option Reading → Type 0
ReadWithin None = Unit
ReadWithin (Some r) = (r.cell < 4) × (r.register < 4)

-- what is answered is what the row reads
pub record Means (r : Option Reading) (role : Role) : Type 0 where
  pub is : r ≡ reading_of role
  pub within : ReadWithin r
