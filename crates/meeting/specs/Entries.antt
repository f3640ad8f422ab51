-- The entry of a row that is complete, and what a tick comes to that asks nothing more, by the definition. Assumes nothing.
--     Kept, Wrote                     how far an entry takes the cursor; the trace past its entries is left alone
--     Lands                           what the functions promise, which have the trace alone
--     entry_here, completed_by, move_at  an entry, and what an event comes to, of a thread at its row
--     landed, noted_at, completed_at, concluded_at      the definition's
use Rattle.std.specs.Prelude.{ℕ, ◌+◌, ◌*◌, ◌≤◌, List, Bool, cond, ◌≡◌, leb, length, get_or}
use Rattle.rules.specs.Event as rules
use Rattle.rules.specs.State.{State}
use Rattle.rules.specs.Table.{opcode_in}
use Rattle.rules.specs.Machine.{Program, machine, entry}
use Rattle.rules.specs.Explorer as explorer
use Rattle.rules.specs.Explorer.{Walk, Tick, goes, faulted}
use Rattle.decode.specs.Ops.{decoded_of}
use Rattle.event.specs.Moves.{entry_if, Happening, move_of, matched_for}
use Rattle.meeting.specs.Stands.{Lent, lent, Stands, ComesTo, site_of}
use Rattle.meeting.specs.declared.Cursor.{Cursor}
use Rattle.event.specs.declared.Here.{Here}
use Rattle.meeting.specs.declared.Ticked.{Ticked}

-- from the cursor c to the cursor d, with this trace: an entry was noted, or none
pub record Kept (c d : Cursor) (trace : List ℕ) : Type 0 where
  pub same_len : d.len ≡ c.len
  pub same-pos : d.pos ≡ c.pos
  pub same-opened : d.opened ≡ c.opened
  pub noted : 16 * d.entries ≤ length trace

-- the bytes past the entries are left alone
pub record Wrote (c d : Cursor) (entry exit : List ℕ) : Type 0 where
  pub more : c.entries ≤ d.entries
  pub long : length exit ≡ length entry
  pub beyond : (i : ℕ) → 16 * d.entries ≤ i → get_or exit i 0 ≡ get_or entry i 0

abbrev pub with_trace : Lent → List ℕ → Lent
with_trace x trace = lent x.clocks x.marks x.values x.numbers x.path trace

-- what a function promises that has the trace alone
pub record Lands (c : Cursor) (r : Ticked) (entry exit : List ℕ) (out : Program → explorer.Limits → Walk State → Tick State) : Type 0 where
  pub kept : Kept c r.cursor exit
  pub wrote : Wrote c r.cursor entry exit
  pub comes :
      (p : Program) (L : explorer.Limits) (x : Lent) (w : Walk State) → 16 * L.operations ≡ length entry
      → Stands (with_trace x entry) c w
      → ComesTo r.outcome r.cursor (with_trace x exit) (out p L w)

abbrev pub opcode_at : Here → ℕ
opcode_at h = opcode_in (decoded_of h.row)

abbrev pub entry_here : Here → ℕ → ℕ → ℕ → List rules.Entry
entry_here h slot mask v = entry h.site.thread h.site.row (opcode_at h) slot mask v

-- the entry of a row that asks, if it is complete
abbrev pub completed_by : Bool → Here → List rules.Entry
completed_by yielded h = entry_if yielded h.site.thread h.site.row (opcode_at h)

-- an event, with the state that it leaves
abbrev pub move_at : Happening → Here → State → rules.Move State
move_at e h st =
    move_of e h.site.thread h.site.row (opcode_at h) (matched_for st h.site.thread (decoded_of h.row)) st

-- the entries are noted where they fit
abbrev pub landed : explorer.Limits → rules.Site → Walk State → List rules.Entry → Tick State
landed L site w es =
    cond (leb (length w.trace + length es) L.operations) (goes (explorer.noted w w.state es)) (faulted rules.impossible site w)

-- the entry of a row that is complete, of one that asks then, and what an event comes to that asks nothing more
abbrev pub noted_at : Here → ℕ → ℕ → ℕ → Program → explorer.Limits → Walk State → Tick State
noted_at h slot mask v p L w = landed L (site_of h.site) w (entry_here h slot mask v)

abbrev pub completed_at : Bool → Here → Program → explorer.Limits → Walk State → Tick State
completed_at yielded h p L w = landed L (site_of h.site) w (completed_by yielded h)

abbrev pub concluded_at : Happening → Here → Program → explorer.Limits → Walk State → Tick State
concluded_at e h p L w = explorer.followed (machine p) L (site_of h.site) w (move_at e h w.state)
