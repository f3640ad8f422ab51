-- What came of a step, by what was held before it and what its entry says. Assumes nothing.
--     came_of     by what its row does
--     came_of_step of a step of a trace
use Rattle.std.specs.Prelude.{ℕ, List, Option, Some, None, true, not, eqb}
use Rattle.rules.specs.Change as changes
use Rattle.rules.specs.Event.{Entry}
use Rattle.rules.specs.Table.{Op, Decoded, refused, decoded, load, store, store_register, rmw, fence, unsync_load, with_mut, yield, join, jump, jump_if, jump_unless, check, critical, explore_state, skip_branch, spurious, plain_read, plain_write}
use Rattle.steps.specs.Entries.{entry_read, operation_at}
use Rattle.steps.specs.Holds.{held, writer, newest_value, register, plain_writer}
use Rattle.outcome.specs.declared.Came.{Came}
use Rattle.outcome.specs.declared.Came.TheVariants as came

-- a change of the value that was read: what it wrote, or that it failed
unfoldable pub change_came : ℕ → ℕ → changes.Changed → Came
change_came v by (changes.success w) = came.Wrote v by w
change_came v by changes.failure = came.Failed v by

-- "value read (opcodes 0, 3, 5, 16), stored (1, 2), left (6)": of a row of thread t with this slot and value in its entry, where h was
-- held before it. A load reads what its slot holds; an exclusive change found its cell's newest value. "the value read or written"
-- (document 02, §5)
abbrev pub came_of : List ℕ → ℕ → ℕ → ℕ → Op → Option Came
came_of h t s v (load c o r) = Some (came.Read v (held h (writer c s)))
came_of h t s v (store c o a) = Some (came.Stored v)
came_of h t s v (store_register c o r) = Some (came.Stored v)
came_of h t s v (rmw c o f change r) = Some (change_came v (held h (writer c s)) (changes.applied change v))
came_of h t s v (fence o) = None
came_of h t s v (unsync_load c r) = Some (came.Read v (held h (writer c s)))
came_of h t s v (with_mut c change r) = Some (came.Left (held h (newest_value c)) v)
came_of h t s v yield = None
came_of h t s v (join thread) = None
came_of h t s v (jump target) = Some (came.Jumped true)
came_of h t s v (jump_if r a target) = Some (came.Jumped (eqb (held h (register t r)) a))
came_of h t s v (jump_unless r a target) = Some (came.Jumped (not (eqb (held h (register t r)) a)))
came_of h t s v (check r a) = Some came.Passed
came_of h t s v critical = None
came_of h t s v explore_state = None
came_of h t s v skip_branch = None
came_of h t s v (spurious r) = Some (came.Took v)
came_of h t s v (plain_read c r) = Some (came.Read v (held h (plain_writer c)))
came_of h t s v (plain_write c a) = Some (came.Written v)

-- nothing of a step that the trace does not hold
abbrev pub came_by : List ℕ → Entry → Decoded Op → Option Came
came_by h e refused = None
came_by h e (decoded op) = came_of h e.thread e.slot e.value op

unfoldable pub came_of_step : List ℕ → List ℕ → List ℕ → ℕ → Option Came
came_of_step table trace h i = came_by h (entry_read trace i) (operation_at table trace i)
