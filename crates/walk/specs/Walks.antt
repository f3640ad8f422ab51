-- What a tick promises. Assumes nothing.
--     CursorPlaced        the cursor is within the buffers
--     Gone, Passed  how far a part of a tick takes the cursor, whatever the bytes are
--     Runs          the program and the limits of a run
--     Ticks         what a tick promises
use Rattle.std.specs.Prelude.{ℕ, ◌+◌, ◌*◌, ◌≤◌, List, ◌≡◌, length, get_or}
use Rattle.rules.specs.State.{State}
use Rattle.rules.specs.Path.{positions}
use Rattle.rules.specs.Table.{shape_of, header_bytes}
use Rattle.rules.specs.Machine.{Program, machine}
use Rattle.rules.specs.Explorer as explorer
use Rattle.rules.specs.Explorer.{Walk}
use Rattle.path.specs.Bounds.{bound_of}
use Rattle.meeting.specs.Stands.{Lent, Stands, ComesTo}
use Rattle.meeting.specs.declared.Cursor.{Cursor}
use Rattle.meeting.specs.declared.Ticked.{Ticked}
use Rattle.walk.specs.declared.Limits.{Limits}

-- the branches passed are among those of the path, and those among the buffer's records; the entries have room in the trace
pub record CursorPlaced (c : Cursor) (path trace : List ℕ) : Type 0 where
  pub passed : c.pos ≤ c.len
  pub within : 16 * c.len ≤ length path
  pub noted : 16 * c.entries ≤ length trace

-- the cursor is still within the buffers, and at most so many choices were opened
pub record Gone (c d : Cursor) (most : ℕ) (path trace : List ℕ) : Type 0 where
  pub placed : CursorPlaced d path trace
  pub few : d.opened ≤ c.opened + most

-- one record more is passed
pub record Passed (c d : Cursor) : Type 0 where
  pub same_len : d.len ≡ c.len
  pub more-pos : d.pos ≡ c.pos + 1
  pub same-opened : d.opened ≡ c.opened
  pub same_entries : d.entries ≡ c.entries

-- the program is the table's, and the limits are those of the settings and the buffers
pub record Runs (p : Program) (L : explorer.Limits) (table shape : List ℕ) (limits : Limits) (path trace : List ℕ) : Type 0 where
  pub is-table : p.table ≡ table
  pub header : header_bytes ≤ length table
  pub is-shape : shape ≡ shape_of table
  pub operations : p.operations ≡ limits.operations
  pub rows : L.operations ≡ limits.operations
  pub branches : 16 * L.branches ≡ length path
  pub few : L.branches ≤ positions
  pub room : 16 * L.operations ≡ length trace
  pub is_bound : L.bound ≡ bound_of limits.bound

-- from the tables and bytes at entry to those at exit
pub record Ticks (entry exit : Lent) (table shape : List ℕ) (limits : Limits) (c : Cursor) (r : Ticked) : Type 0 where
  pub comes :
      (p : Program) (L : explorer.Limits) (w : Walk State)
      → Runs p L table shape limits entry.path entry.trace
      → Stands entry c w
      → ComesTo r.outcome r.cursor exit (explorer.tick (machine p) L w)
  pub gone : Gone c r.cursor 60 exit.path exit.trace
  pub more : c.entries ≤ r.cursor.entries
  pub beyond : (i : ℕ) → 16 * r.cursor.entries ≤ i → get_or exit.trace i 0 ≡ get_or entry.trace i 0
