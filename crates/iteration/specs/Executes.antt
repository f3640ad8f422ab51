-- What an execution promises. Assumes nothing.
--     most_opened          more choices than an execution can open
--     Fuel, Afresh        the ticks that an execution is given, a cursor at the path's first branch
--     Underway, Ticking   an execution after so many ticks
--     Walks               an execution from its first tick to its end or fault, by the definition's `walked`
--     machine_of           that of a table, a final condition and the settings
--     RunReady, Shaped    checks 2 to 5 have passed, and the shape is the table's
--     TermsGiven          the terms are those of the settings
--     Knows               a path and a cursor are a ledger's
--     Executes            an execution, by the definition's `execution`
use Rattle.std.specs.Prelude.{ℕ, ◌+◌, ◌*◌, ◌≤◌, List, true, ◌≡◌, length, get_or}
use Rattle.rules.specs.State.{State}
use Rattle.rules.specs.Table.{shape_of, judged, good}
use Rattle.rules.specs.Machine as machine
use Rattle.rules.specs.Event.{Machine}
use Rattle.rules.specs.Explorer as explorer
use Rattle.rules.specs.Explorer.{Walk, Ledger}
use Rattle.rules.specs.Explored as rules
use Rattle.rules.specs.Explored.{Settings, ticks_of, program_of, limits_of}
use Rattle.path.specs.Holds.{Holds}
use Rattle.path.specs.Bounds.{bound_of}
use Rattle.meeting.specs.Stands.{Lent, Stands, ComesTo}
use Rattle.meeting.specs.declared.Cursor.{Cursor}
use Rattle.meeting.specs.declared.Ticked.{Ticked}
use Rattle.walk.specs.Walks.{Runs, Gone}
use Rattle.walk.specs.declared.Limits.{Limits}
use Rattle.iteration.specs.declared.Terms.{Terms}

-- 60 at each tick, and at most so many ticks as 65535 rows would be given
abbrev pub most_opened : ℕ
most_opened = 60 * ticks_of 65535

pub record Fuel (operations r : ℕ) : Type 0 where
  pub is : r ≡ ticks_of operations
  pub few : r ≤ ticks_of 65535

pub record Afresh (c d : Cursor) : Type 0 where
  pub same_len : d.len ≡ c.len
  pub first : d.pos ≡ 0
  pub same-opened : d.opened ≡ c.opened
  pub empty : d.entries ≡ 0

-- Ticks

-- n ticks after the walk w the tables, the bytes and the cursor stand for a walk, and what is left of the execution is its
pub record Underway (p : machine.Program) (L : explorer.Limits) (w : Walk State) (n : ℕ) (x : Lent) (c : Cursor) : Type 0 where
  pub walk : Walk State
  pub stands : Stands x c walk
  pub rest : (m : ℕ) → explorer.walked (machine.machine p) L (n + m) w ≡ explorer.walked (machine.machine p) L m walk

pub record Ticking (entry now : Lent) (table shape : List ℕ) (limits : Limits) (c d : Cursor) (n : ℕ) : Type 0 where
  pub comes :
      (p : machine.Program) (L : explorer.Limits) (w : Walk State)
      → Runs p L table shape limits entry.path entry.trace → Stands entry c w → Underway p L w n now d
  pub gone : Gone c d (60 * n) now.path now.trace
  pub same-path : length now.path ≡ length entry.path
  pub same-trace : length now.trace ≡ length entry.trace
  pub more : c.entries ≤ d.entries
  pub beyond : (i : ℕ) → 16 * d.entries ≤ i → get_or now.trace i 0 ≡ get_or entry.trace i 0

pub record Walks (entry exit : Lent) (table shape : List ℕ) (limits : Limits) (c : Cursor) (r : Ticked) : Type 0 where
  pub comes :
      (p : machine.Program) (L : explorer.Limits) (w : Walk State)
      → Runs p L table shape limits entry.path entry.trace → Stands entry c w
      → ComesTo r.outcome r.cursor exit (explorer.walked (machine.machine p) L (ticks_of limits.operations) w)
  pub gone : Gone c r.cursor most_opened exit.path exit.trace
  pub beyond : (i : ℕ) → 16 * r.cursor.entries ≤ i → get_or exit.trace i 0 ≡ get_or entry.trace i 0

-- An execution

abbrev pub machine_of : List ℕ → List ℕ → Settings → Machine
machine_of table condition s = machine.machine (program_of table condition s)

-- "Checks run 2, 3, 4, 5"
pub record RunReady (table : List ℕ) (s : Settings) (path trace : List ℕ) : Type 0 where
  pub in-range : rules.settings_fine s ≡ true
  pub path-long : length path ≡ 16 * s.branches
  pub trace-long : length trace ≡ 16 * s.operations
  pub accepted : judged table ≡ good

-- the shape is the table's, which is accepted
pub record Shaped (table shape : List ℕ) (s : Settings) (path trace : List ℕ) : Type 0 where
  pub ready : RunReady table s path trace
  pub is-shape : shape ≡ shape_of table

pub record TermsGiven (s : Settings) (t : Terms) : Type 0 where
  pub operations : t.limits.operations ≡ s.operations
  pub bound : bound_of t.limits.bound ≡ s.bound
  pub exploring : s.exploring ≡ t.exploring

pub record Knows (path : List ℕ) (c : Cursor) (l : Ledger) : Type 0 where
  pub holds : Holds path l.path
  pub is-len : length l.path ≡ c.len
  pub is-opened : l.opened ≡ c.opened

pub record Executes (entry exit : Lent) (table shape : List ℕ) (t : Terms) (c : Cursor) (r : Ticked) : Type 0 where
  pub comes :
      (condition : List ℕ) (s : Settings) (l : Ledger) → TermsGiven s t → Shaped table shape s entry.path entry.trace → Knows entry.path c l
      → ComesTo r.outcome r.cursor exit (explorer.execution (machine_of table condition s) (limits_of s) l)
  pub gone : Gone c r.cursor most_opened exit.path exit.trace
  pub beyond : (i : ℕ) → 16 * r.cursor.entries ≤ i → get_or exit.trace i 0 ≡ get_or entry.trace i 0
