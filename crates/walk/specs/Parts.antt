-- What each part of a tick comes to that has all the tables and both buffers, and what its function promises. Assumes nothing.
--     then_on, then_replied             the definition's tick in parts: what comes next, the branch's answer
--     AtRow, AsksAt, MovesAt          where the active thread's row is looked at
--     Goes, with met_at, taken_at, ticked_at      what the functions promise
use Rattle.std.specs.Prelude.{ℕ, ◌+◌, ◌*◌, List, ◌≡◌, length, get_or, Option, Ok, Err}
use Rattle.rules.specs.Event as rules
use Rattle.rules.specs.State.{State}
use Rattle.rules.specs.Table.{cells_of}
use Rattle.rules.specs.Machine.{Program, machine, exploring_now, current, active_row, row_of, row_count, next_at}
use Rattle.rules.specs.Path.{no_branch}
use Rattle.rules.specs.Explorer as explorer
use Rattle.rules.specs.Explorer.{Walk, Tick, goes, over, faulted}
use Rattle.decode.specs.Ops.{decoded_of}
use Rattle.path.specs.Bounds.{bound_of}
use Rattle.event.specs.Moves.{Happening}
use Rattle.event.specs.declared.Moved.TheVariants as event
use Rattle.event.specs.declared.Question.{Question}
use Rattle.event.specs.declared.Question.TheVariants as question
use Rattle.meeting.specs.Stands.{Lent, Stands, ComesTo, site_of}
use Rattle.meeting.specs.Branches.{asked_at, BranchesHeld}
use Rattle.meeting.specs.Entries.{move_at, Wrote}
use Rattle.meeting.specs.declared.Cursor.{Cursor}
use Rattle.event.specs.declared.Here.{Here}
use Rattle.meeting.specs.declared.Ticked.{Ticked}
use Rattle.walk.specs.Walks.{Gone}
use Rattle.walk.specs.declared.Limits.{Limits}

-- where a tick goes on, what comes next
abbrev pub then_on : (Walk State → Tick State) → Tick State → Tick State
then_on f (goes w) = f w
then_on f (over w) = over w
then_on f (faulted g s w) = faulted g s w

-- and then the branch answers
abbrev pub then_replied : Program → explorer.Limits → rules.Site → rules.Question → Tick State → Tick State
then_replied p L site q =
    then_on (λ w. explorer.replied (machine p) L site w (explorer.reply w.pos (get_or w.ledger.path w.pos no_branch) q))

-- the active thread is this one, at this row
pub record AtRow (st : State) (h : Here) : Type 0 where
  pub who : current st ≡ h.site.thread
  pub row : active_row st ≡ h.site.row

-- a question that the active thread's row goes on with; after a scheduling no row is looked at
abbrev pub AsksAt : Question → State → Here → Type 0
AsksAt question.Thread st h = Unit
AsksAt question.Slot st h = AtRow st h
AsksAt question.Bit st h = AtRow st h

abbrev pub MovesAt : Happening → State → Here → Type 0
MovesAt (Ok event.Moves) st h = Unit
MovesAt (Ok (event.Done slot mask value)) st h = Unit
MovesAt (Ok (event.Asks q yielded)) st h = AsksAt q st h
MovesAt (Ok event.Ends) st h = Unit
MovesAt (Err f) st h = Unit

-- the row is that of the table, and the limits are those of the buffers
pub record Rooms (p : Program) (L : explorer.Limits) (h : Here) (path trace : List ℕ) : Type 0 where
  pub holding : BranchesHeld L path
  pub room : 16 * L.operations ≡ length trace
  pub is_row : row_of p h.site.thread h.site.row ≡ decoded_of h.row

-- what a function promises that has all of them, with how far it goes and what it needs to know
pub record Goes (entry exit : Lent) (c : Cursor) (r : Ticked) (most : ℕ) (h : Here) (needs : Program → explorer.Limits → State → Type 0) (out : Program → explorer.Limits → Walk State → Tick State) : Type 0 where
  pub gone : Gone c r.cursor most exit.path exit.trace
  pub wrote : Wrote c r.cursor entry.trace exit.trace
  pub comes :
      (p : Program) (L : explorer.Limits) (w : Walk State) → Rooms p L h entry.path entry.trace → needs p L w.state
      → Stands entry c w
      → ComesTo r.outcome r.cursor exit (out p L w)

abbrev pub met_at : Question → Here → Program → explorer.Limits → Walk State → Tick State
met_at q h p L w = explorer.met (machine p) L (site_of h.site) w (exploring_now w.state.numbers) (asked_at q h w.state)

abbrev pub MeetsNeeds : Question → Here → Program → explorer.Limits → State → Type 0
MeetsNeeds q h p L st = AsksAt q st h

abbrev pub taken_at : Happening → Here → Program → explorer.Limits → Walk State → Tick State
taken_at e h p L w = explorer.taken (machine p) L (site_of h.site) w (move_at e h w.state)

pub record TakesAt (e : Happening) (h : Here) (bound : Option ℕ) (L : explorer.Limits) (st : State) : Type 0 where
  pub moves : MovesAt e st h
  pub is_bound : L.bound ≡ bound_of bound

abbrev pub TakesNeeds : Happening → Here → Option ℕ → Program → explorer.Limits → State → Type 0
TakesNeeds e h bound p L st = TakesAt e h bound L st

-- the program's facts that a tick of a thread at its row looks at
pub record TicksAt (shape : List ℕ) (limits : Limits) (h : Here) (p : Program) (L : explorer.Limits) (st : State) : Type 0 where
  pub operations : p.operations ≡ limits.operations
  pub cells : cells_of p.table ≡ get_or shape 1 0
  pub rows : row_count p h.site.thread ≡ get_or shape (2 + h.site.thread) 0
  pub is_bound : L.bound ≡ bound_of limits.bound
  pub there : AtRow st h

abbrev pub TicksNeeds : List ℕ → Limits → Here → Program → explorer.Limits → State → Type 0
TicksNeeds shape limits h p L st = TicksAt shape limits h p L st

-- what the thread does next, taken
abbrev pub ticked_at : Here → Program → explorer.Limits → Walk State → Tick State
ticked_at h p L w = explorer.taken (machine p) L (site_of h.site) w (next_at p w.state h.site.thread h.site.row)
