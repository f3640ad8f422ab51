-- What the lent tables, bytes and the cursor stand for in the definition. Assumes nothing.
--     SameCursor    the cursor is left as it is
--     BranchThere   where a tick goes on, there is a branch to be passed
--     GoesOn, FaultMet  how a tick comes out that leaves it
--     Lent          the tables and bytes that are lent
--     Stands        they stand for a walk: its state, the path that the bytes hold, the counts, the trace at the front of its bytes
--     ComesTo       how a tick came out, as the definition has it
use Rattle.std.specs.Prelude.{ℕ, ◌*◌, ◌<◌, List, ◌≡◌, length, take}
use Rattle.rules.specs.Event as rules
use Rattle.rules.specs.State.{State, Clocks, Marks, Values, Numbers}
use Rattle.rules.specs.Explorer as explorer
use Rattle.rules.specs.Explorer.{Walk, goes, over, faulted}
use Rattle.rules.specs.Explored.{entries_bytes}
use Rattle.layout.specs.Tables.{state}
use Rattle.path.specs.Holds.{Holds}
use Rattle.event.specs.Moves.{fault_of}
pub use Rattle.event.specs.Moves.{site_of}
use Rattle.event.specs.declared.Fault.{Fault}
use Rattle.event.specs.declared.Site.{Site}
use Rattle.meeting.specs.declared.Cursor.{Cursor}
use Rattle.meeting.specs.declared.Outcome.{Outcome}
use Rattle.meeting.specs.declared.Outcome.TheVariants as code
use Rattle.meeting.specs.declared.Ticked.{Ticked}

-- the cursor c is left as it is
pub record SameCursor (c d : Cursor) : Type 0 where
  pub same_len : d.len ≡ c.len
  pub same-pos : d.pos ≡ c.pos
  pub same-opened : d.opened ≡ c.opened
  pub same_entries : d.entries ≡ c.entries

-- where a tick goes on, there is a branch to be passed
abbrev pub BranchThere : Outcome → Cursor → Type 0
BranchThere code.Goes c = c.pos < c.len
BranchThere code.Over c = Unit
BranchThere (code.Faulted f s) c = Unit

-- it goes on
pub record GoesOn (c : Cursor) (r : Ticked) : Type 0 where
  pub is : r.outcome ≡ code.Goes
  pub stays : SameCursor c r.cursor

-- a fault, which leaves the cursor
pub record FaultMet (f : Fault) (s : Site) (c : Cursor) (r : Ticked) : Type 0 where
  pub is : r.outcome ≡ code.Faulted f s
  pub stays : SameCursor c r.cursor
  pub idle : BranchThere r.outcome r.cursor

pub record Lent : Type 0 where
  pub clocks : Clocks
  pub marks : Marks
  pub values : Values
  pub numbers : Numbers
  pub path : List ℕ
  pub trace : List ℕ

abbrev pub lent : Clocks → Marks → Values → Numbers → List ℕ → List ℕ → Lent
lent clocks marks values numbers path trace =
    record { clocks = clocks; marks = marks; values = values; numbers = numbers; path = path; trace = trace }

pub record Stands (x : Lent) (c : Cursor) (w : Walk State) : Type 0 where
  pub is_state : w.state ≡ state x.clocks x.marks x.values x.numbers
  pub holds : Holds x.path w.ledger.path
  pub is-len : length w.ledger.path ≡ c.len
  pub is-opened : w.ledger.opened ≡ c.opened
  pub is_pos : w.pos ≡ c.pos
  pub front : take (16 * length w.trace) x.trace ≡ entries_bytes w.trace
  pub is-entries : length w.trace ≡ c.entries

-- a fault is the definition's, at its site
pub record Faults (f : rules.Fault) (site : rules.Site) (x : Lent) (c : Cursor) (g : rules.Fault) (there : rules.Site) (w : Walk State) : Type 0 where
  pub is-fault : f ≡ g
  pub is-site : site ≡ there
  pub stands : Stands x c w

abbrev pub ComesTo : Outcome → Cursor → Lent → explorer.Tick State → Type 0
ComesTo code.Goes c x (goes w) = Stands x c w
ComesTo code.Goes c x (over w) = ⊥
ComesTo code.Goes c x (faulted g there w) = ⊥
ComesTo code.Over c x (goes w) = ⊥
ComesTo code.Over c x (over w) = Stands x c w
ComesTo code.Over c x (faulted g there w) = ⊥
ComesTo (code.Faulted f s) c x (goes w) = ⊥
ComesTo (code.Faulted f s) c x (over w) = ⊥
ComesTo (code.Faulted f s) c x (faulted g there w) = Faults (fault_of f) (site_of s) x c g there w
