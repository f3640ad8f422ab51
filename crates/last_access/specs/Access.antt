-- The steps that access a cell or a plain cell, as a race speaks of them. Assumes nothing.
--     cell_in          the cell or the plain cell that a row names
--     last_access_step  the last step in which a thread so accesses a cell
use Rattle.std.specs.Prelude.{ℕ, zero, suc, List, Option, Some, None, Bool, true, false, cond, ◌&&◌, ◌||◌, eqb}
use Rattle.std.specs.Option.{option_eq}
use Rattle.rules.specs.Change.{Changed, success, failure, applied}
use Rattle.rules.specs.Event.{Entry}
use Rattle.rules.specs.Table.{Op, Decoded, refused, decoded, opcode_of, load, store, store_register, rmw, fence, unsync_load, with_mut, yield, join, jump, jump_if, jump_unless, check, critical, explore_state, skip_branch, spurious, plain_read, plain_write}
use Rattle.rules.specs.Machine.{Role, loads, stores_operand, stores_register, modifies, takes_bit, otherwise, role_of}
use Rattle.steps.specs.Entries.{entry_read, operation_at}
use Rattle.last_access.specs.declared.AccessKind.{AccessKind}
use Rattle.last_access.specs.declared.AccessKind.TheVariants.{Load, UnsyncLoad, Store, Exclusive, PlainRead, PlainWrite}

-- the cell that a row names, or the plain cell: its opcode says which
abbrev pub cell_in : Op → Option ℕ
cell_in (load c o r) = Some c
cell_in (store c o a) = Some c
cell_in (store_register c o r) = Some c
cell_in (rmw c o f change r) = Some c
cell_in (fence o) = None
cell_in (unsync_load c r) = Some c
cell_in (with_mut c change r) = Some c
cell_in yield = None
cell_in (join thread) = None
cell_in (jump target) = None
cell_in (jump_if r a target) = None
cell_in (jump_unless r a target) = None
cell_in (check r a) = None
cell_in critical = None
cell_in explore_state = None
cell_in skip_branch = None
cell_in (spurious r) = None
cell_in (plain_read c r) = Some c
cell_in (plain_write c a) = Some c

abbrev pub is_success : Changed → Bool
is_success (success v) = true
is_success failure = false

-- whether a row stores to a cell, where it has read this value: a change that fails does not
abbrev pub stores_as : ℕ → Role → Bool
stores_as v (loads c o r) = false
stores_as v (stores_operand c o a) = true
stores_as v (stores_register c o r) = true
stores_as v (modifies c o f change r) = is_success (applied change v)
stores_as v (takes_bit r) = false
stores_as v otherwise = false

abbrev pub stores_after : ℕ → Op → Bool
stores_after v op = stores_as v (role_of op)

-- how a row accesses its cell, by its opcode: 0 and 3 load, 5 loads unsynchronised, 6 is exclusive, 17 and 18 read
-- and write a plain cell
abbrev pub accesses : AccessKind → ℕ → Op → Bool
accesses Load v op = eqb (opcode_of op) 0 || eqb (opcode_of op) 3
accesses UnsyncLoad v op = eqb (opcode_of op) 5
accesses Store v op = stores_after v op
accesses Exclusive v op = eqb (opcode_of op) 6
accesses PlainRead v op = eqb (opcode_of op) 17
accesses PlainWrite v op = eqb (opcode_of op) 18

-- whether a step that does this, by its entry, is such an access of this thread to this cell
abbrev pub is_access_by : ℕ → ℕ → AccessKind → Entry → Decoded Op → Bool
is_access_by thread cell kind e refused = false
is_access_by thread cell kind e (decoded op) =
    eqb e.thread thread && option_eq eqb (cell_in op) (Some cell) && accesses kind e.value op

-- the last of the first n numbers that passes the test
unfoldable pub last_of : (ℕ → Bool) → ℕ → Option ℕ
last_of test zero = None
last_of test (suc n) = cond (test n) (Some n) (last_of test n)

unfoldable pub is_access : List ℕ → List ℕ → ℕ → ℕ → AccessKind → ℕ → Bool
is_access table trace thread cell kind i = is_access_by thread cell kind (entry_read trace i) (operation_at table trace i)

-- the last of the first n steps that is such an access
unfoldable pub last_access_step : List ℕ → List ℕ → ℕ → ℕ → AccessKind → ℕ → Option ℕ
last_access_step table trace thread cell kind n = last_of (is_access table trace thread cell kind) n
