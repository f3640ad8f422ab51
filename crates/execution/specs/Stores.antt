-- What a row stores, if it is a store. Assumes nothing.
--     stored_of      the access and the value
--     Stores        that this is what is answered
use Rattle.std.specs.Prelude.{ℕ, ◌<◌, ◌≡◌, Option, Some, None}
use Rattle.rules.specs.State.{Values, value, of_register, register_at}
use Rattle.rules.specs.Machine.{Role, loads, stores_operand, stores_register, modifies, takes_bit, otherwise}
use Rattle.layout.specs.declared.Access.{Access}
use Rattle.execution.specs.declared.Stored.{Stored}

abbrev pub access_by : ℕ → ℕ → ℕ → Access
access_by t c o = record { thread = t; cell = c; order = o }

abbrev pub stored : Access → ℕ → Stored
stored access v = record { access = access; value = v }

-- a thread's store of its operand, or of a register; nothing of another row
abbrev pub stored_of : Values → ℕ → Role → Option Stored
stored_of vs t (loads c o r) = None
stored_of vs t (stores_operand c o a) = Some (stored (access_by t c o) a)
stored_of vs t (stores_register c o r) = Some (stored (access_by t c o) (value vs (of_register (register_at t r))))
stored_of vs t (modifies c o f change r) = None
stored_of vs t (takes_bit r) = None
stored_of vs t otherwise = None

-- the access is the thread's, and the cell is one that there is
abbrev pub StoreWithin : ℕ → Option Stored → Type 0
StoreWithin t None = Unit
StoreWithin t (Some s) = (s.access.thread ≡ t) × (s.access.cell < 4)

-- what is answered is what the row stores
pub record Stores (r : Option Stored) (vs : Values) (t : ℕ) (role : Role) : Type 0 where
  pub is : r ≡ stored_of vs t role
  pub within : StoreWithin t r
