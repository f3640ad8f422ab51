-- Marks, a branch that is added, and what a branch answers, by the definition, and what their functions promise. Assumes nothing.
--     question_of, asked_at                                   what is asked, of a thread at its row
--     CursorMarked, MarkedBy, MarksThread, MarksThreads, CursorMarks    rule (a)
--     PushedFew, OneMore, AddedTo                           a branch that was added, and how it is counted
--     branched, reached                                     the definition's: a branch added, the path met
--     Met, BranchesHeld, Reaches, added_at, reached_at             a branch is added where there is none
--     ReplyWithin, PickFits, AnswersBy, RepliesBy           what a branch chooses
use Rattle.std.specs.Prelude.{ℕ, zero, suc, ◌+◌, ◌*◌, ◌≤◌, ◌<◌, List, map, Bool, cond, ◌≡◌, eqb, length, get_or, Option, Some, None, Result, Ok, Err}
use Rattle.rules.specs.Event as rules
use Rattle.rules.specs.Vector.{nobody, thread}
use Rattle.rules.specs.State.{State, Clocks, Marks as MarkTable, Values, Numbers}
use Rattle.rules.specs.Table.{Op, Decoded}
use Rattle.rules.specs.Machine.{conflict, every_thread, initial, standing, exploring_now, mask_of}
use Rattle.rules.specs.Path.{Branch, no_branch, positions}
use Rattle.rules.specs.Explorer as explorer
use Rattle.rules.specs.Explorer.{Walk, Ledger, Tick, goes, faulted, pushes, faults, says, unexpected}
use Rattle.layout.specs.Tables.{state}
use Rattle.decode.specs.Ops.{decoded_of}
use Rattle.path.specs.Holds.{Holds}
use Rattle.path.specs.Bounds.{bound_of}
use Rattle.path.specs.declared.NotAdded.{NotAdded}
use Rattle.path.specs.declared.NotAdded.TheVariants.{Full, Preempted}
use Rattle.event.specs.Moves.{matched_for}
use Rattle.event.specs.declared.Picked.{Picked}
use Rattle.event.specs.declared.Picked.TheVariants as choice
use Rattle.event.specs.declared.Fault.TheVariants as fault
use Rattle.event.specs.declared.Question.{Question}
use Rattle.event.specs.declared.Question.TheVariants as question
use Rattle.event.specs.declared.Site.{Site}
use Rattle.execution.specs.Answers.{ChoiceWithin}
use Rattle.meeting.specs.Stands.{lent, Stands, ComesTo, BranchThere, FaultMet, site_of}
use Rattle.meeting.specs.declared.Cursor.{Cursor}
use Rattle.event.specs.declared.Here.{Here}
use Rattle.meeting.specs.declared.Outcome.TheVariants as outcome
use Rattle.meeting.specs.declared.Ticked.{Ticked}

-- rule (a): at most ten choices are opened for each of five threads
pub record CursorMarked (c d : Cursor) : Type 0 where
  pub same_len : d.len ≡ c.len
  pub same-pos : d.pos ≡ c.pos
  pub same_entries : d.entries ≡ c.entries
  pub few : d.opened ≤ c.opened + 50

-- of a thread at its row, in a state
abbrev pub question_of : Question → State → ℕ → Decoded Op → rules.Question
question_of question.Thread st t row =
    rules.which_thread (map (conflict st) every_thread) (initial st.numbers) (map (standing st.numbers) every_thread)
question_of question.Slot st t row = rules.which_slot (matched_for st t row)
question_of question.Bit st t row = rules.which_bit

abbrev pub asked_at : Question → Here → State → rules.Question
asked_at q h st = question_of q st h.site.thread (decoded_of h.row)

-- the ledger l has become m, with so many choices more
pub record MarkedBy (exit : List ℕ) (l m : Ledger) (r : ℕ) : Type 0 where
  pub holds : Holds exit m.path
  pub same : length m.path ≡ length l.path
  pub opens : m.opened ≡ l.opened + r

-- what is marked for one thread, for the threads below n, and for all
pub record MarksThread (clocks : Clocks) (numbers : Numbers) (entry exit : List ℕ) (bound : Option ℕ) (t r : ℕ) : Type 0 where
  pub few : r ≤ 10
  pub keeps : length exit ≡ length entry
  pub marks :
      (l : Ledger) (marks : MarkTable) (values : Values) → Holds entry l.path
      → MarkedBy exit l (explorer.backtrack_from (bound_of bound) l (conflict (state clocks marks values numbers) t) t) r

unfoldable pub marked_below : Option ℕ → State → Ledger → ℕ → Ledger
marked_below bound st l zero = l
marked_below bound st l (suc n) = explorer.backtrack_from (bound_of bound) (marked_below bound st l n) (conflict st n) n

abbrev pub MarksBelow : Clocks → Numbers → List ℕ → List ℕ → Option ℕ → ℕ → ℕ → Type 0
MarksBelow clocks numbers entry exit bound n r =
    (l : Ledger) (marks : MarkTable) (values : Values) → Holds entry l.path
    → MarkedBy exit l (marked_below bound (state clocks marks values numbers) l n) r

pub record MarksThreads (clocks : Clocks) (numbers : Numbers) (entry exit : List ℕ) (bound : Option ℕ) (r : ℕ) : Type 0 where
  pub few : r ≤ 50
  pub marks :
      (l : Ledger) (marks : MarkTable) (values : Values) → Holds entry l.path
      → MarkedBy exit l (explorer.all_marked (bound_of bound) l (map (conflict (state clocks marks values numbers)) every_thread) 0) r

-- before a question meets the path
pub record CursorMarks (c d : Cursor) (clocks : Clocks) (numbers : Numbers) (entry exit : List ℕ) (bound : Option ℕ) (q : Question) : Type 0 where
  pub marked : CursorMarked c d
  pub stands :
      (w : Walk State) (marks : MarkTable) (values : Values) (trace : List ℕ) (h : Here)
      → Stands (lent clocks marks values numbers entry trace) c w
      → Stands (lent clocks marks values numbers exit trace) d
      (explorer.with_ledger w (explorer.first_marked (bound_of bound) w.ledger (asked_at q h w.state)))

abbrev pub PushedFew : Result ℕ NotAdded → Type 0
PushedFew (Ok n) = n ≤ 6
PushedFew (Err e) = Unit

-- a branch more, with so many choices
pub record OneMore (c : Cursor) (n : ℕ) (d : Cursor) : Type 0 where
  pub more-len : d.len ≡ c.len + 1
  pub same-pos : d.pos ≡ c.pos
  pub more-opened : d.opened ≡ c.opened + n
  pub same_entries : d.entries ≡ c.entries

abbrev pub AddedTo : Result ℕ NotAdded → Site → Cursor → Ticked → Type 0
AddedTo (Ok n) s c r = (r.outcome ≡ outcome.Goes) × OneMore c n r.cursor
AddedTo (Err Full) s c r = FaultMet fault.Full s c r
AddedTo (Err Preempted) s c r = FaultMet fault.Preemptions s c r

-- a question has met the path, which these bytes now are
pub record Met (c : Cursor) (r : Ticked) (path : List ℕ) : Type 0 where
  pub ahead : BranchThere r.outcome r.cursor
  pub passed : r.cursor.pos ≤ r.cursor.len
  pub within : 16 * r.cursor.len ≤ length path
  pub same_entries : r.cursor.entries ≡ c.entries
  pub few : r.cursor.opened ≤ c.opened + 6

-- the limit of branches is that of the path's bytes
pub record BranchesHeld (L : explorer.Limits) (path : List ℕ) : Type 0 where
  pub branches : 16 * L.branches ≡ length path
  pub few : L.branches ≤ positions

-- what a function promises that adds a branch where there is none
pub record Reaches (c : Cursor) (r : Ticked) (clocks : Clocks) (marks : MarkTable) (numbers : Numbers) (entry exit : List ℕ) (out : explorer.Limits → Walk State → Tick State) : Type 0 where
  pub met : Met c r exit
  pub comes :
      (L : explorer.Limits) (w : Walk State) (values : Values) (trace : List ℕ) → BranchesHeld L entry
      → Stands (lent clocks marks values numbers entry trace) c w
      → ComesTo r.outcome r.cursor (lent clocks marks values numbers exit trace) (out L w)

-- a branch is added, or a fault met
abbrev pub branched : rules.Site → Walk State → explorer.Pushed → Tick State
branched site w (pushes b) = goes (explorer.with_ledger w (explorer.with_branch w.ledger b))
branched site w (faults f) = faulted f site w

-- the path is met: a branch stands at the position, or a fault was met
abbrev pub reached : explorer.Limits → rules.Site → Walk State → Bool → rules.Question → Tick State
reached L site w exploring q =
    cond (eqb w.pos (length w.ledger.path))
    (branched site w (explorer.pushed L.branches w.ledger.path exploring q))
    (goes w)

abbrev pub pushed_at : explorer.Limits → Walk State → rules.Question → explorer.Pushed
pushed_at L w q = explorer.pushed L.branches w.ledger.path (exploring_now w.state.numbers) q

abbrev pub added_at : Question → Here → explorer.Limits → Walk State → Tick State
added_at q h L w = branched (site_of h.site) w (pushed_at L w (asked_at q h w.state))

abbrev pub reached_at : Question → Here → explorer.Limits → Walk State → Tick State
reached_at q h L w = reached L (site_of h.site) w (exploring_now w.state.numbers) (asked_at q h w.state)

abbrev pub ReplyWithin : Option Picked → Type 0
ReplyWithin (Some choice) = ChoiceWithin choice
ReplyWithin None = Unit

-- the slot, and the mask of all that were offered
pub record FitsSlot (slot mask : ℕ) (a : rules.Pick) : Type 0 where
  pub values : List ℕ
  pub is : a ≡ rules.read_slot slot values
  pub masked : mask ≡ mask_of 0 values

pub record FitsNobody (a : rules.Pick) : Type 0 where
  pub at : ℕ
  pub is : a ≡ rules.run_thread nobody at

-- a choice is the definition's answer
abbrev pub PickFits : Picked → rules.Pick → Type 0
PickFits (choice.Thread chosen branch) a = a ≡ rules.run_thread (thread chosen) branch
PickFits choice.Nobody a = FitsNobody a
PickFits (choice.Slot slot mask) a = FitsSlot slot mask a
PickFits (choice.Bit bit) a = a ≡ rules.take_bit bit

abbrev pub AnswersBy : Option Picked → explorer.Reply → Type 0
AnswersBy (Some choice) (says a) = PickFits choice a
AnswersBy (Some choice) unexpected = ⊥
AnswersBy None (says a) = ⊥
AnswersBy None unexpected = Unit

-- what the branch at a position of a path answers
pub record RepliesBy (path : List ℕ) (pos : ℕ) (q : Question) (r : Option Picked) : Type 0 where
  pub within : ReplyWithin r
  pub is :
      (bs : List Branch) → Holds path bs → pos < positions → (st : State) (t : ℕ) (row : Decoded Op)
      → AnswersBy r (explorer.reply pos (get_or bs pos no_branch) (question_of q st t row))
