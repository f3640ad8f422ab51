-- Demand 3, "that its thread has seen by then": what a thread has itself read or written in an execution counts as seen by it,
-- until another store takes the slot. Assumes nothing.
--     Sees, Taken        what a thread sees, and that a store took a slot
--     Watched            what a tick that goes on adds and keeps
--     Watching           and what it is never offered
--     Since, Lasting     along the ticks of an execution
--     Seen               the statement: every tick of every execution of every run, of a table with a fine header
--     SeenInRuns         so in every run that `explore` makes
use Rattle.std.specs.Prelude.{ℕ, ◌+◌, ◌≤◌, ◌<◌, List, [], ◌∷◌, Bool, true, ◌≡◌, ◌⊎◌, get_or}
use Rattle.rules.specs.Vector.{largest}
use Rattle.rules.specs.Table.{header_fine, judged, good}
use Rattle.rules.specs.Event.{Entry, Matched}
use Rattle.rules.specs.State.{State, number, marks_of, count, threads, cells}
use Rattle.rules.specs.Cell.{seen_by, slot_of, live_in}
use Rattle.rules.specs.Machine.{Program, machine, current}
use Rattle.rules.specs.Explorer.{Limits, Walk, goes, tick}
use Rattle.rules.specs.Explored.{Settings, settings_fine, program_of, limits_of}
use Rattle.ledger.specs.History.{Every, Course, courses}
use Rattle.offers.specs.Offered.{Below, Among}
use Rattle.offers.specs.Chosen.{AsksSlot, SlotChosen}

-- the store in slot i of cell c counts as seen by thread t
abbrev pub Sees : State → ℕ → ℕ → ℕ → Type 0
Sees st t c i = seen_by st.clocks (marks_of st.marks c) t i ≡ true

-- between two states a store took that slot: the cell has one store more, and this is where it stands
abbrev pub Taken : ℕ → ℕ → State → State → Type 0
Taken c i st now =
    (slot_of (number st.numbers (count c)) ≡ i)
    × (number now.numbers (count c) ≡ number st.numbers (count c) + 1)

module _ (p : Program) (limits : Limits) where
  -- a tick that goes on from one walk to another
  pub record Watched (w v : Walk State) : Type 0 where
    -- the store that a load or an RMW has read is seen by its thread, also where the RMW's own store has taken its place
    pub read :
        (s : State) (es : List Entry) (x : Bool) (m : Matched) → AsksSlot p limits w s es x m
        → (c : SlotChosen p limits w s es m) → Sees v.state (current s) c.cell (get_or c.by.values c.by.pos 0)
    -- a store that is new is seen by the thread that made it
    pub wrote : (c i : ℕ) → c < cells → Taken c i w.state v.state → Sees v.state (current w.state) c i
    -- what any thread has seen it still sees, unless a store took that slot
    pub kept :
        (t c i : ℕ) → t < threads → c < cells → Sees w.state t c i → Sees v.state t c i ⊎ Taken c i w.state v.state

  pub record Watching (w : Walk State) : Type 0 where
    -- a load or an RMW is offered nothing that is recorded below another live store that its thread has seen before this tick
    pub never :
        (s : State) (es : List Entry) (x : Bool) (m : Matched) → AsksSlot p limits w s es x m
        → (c : SlotChosen p limits w s es m) (i j : ℕ) → Among i c.by.values → j < live_in s.numbers c.cell
        → Sees w.state (current s) c.cell j → Below s.clocks c.cell i j → ⊥
    pub goes-on : (v : Walk State) → tick (machine p) limits w ≡ goes v → Watched w v

-- a later walk, with the slot not taken on the way
pub data Since (c i : ℕ) : Walk State → List (Walk State) → Walk State → Type 0 where
  here : {w : Walk State} {ws : List (Walk State)} → Since c i w ws w
  on : {w v u : Walk State} {vs : List (Walk State)} → (Taken c i w.state v.state → ⊥) → Since c i v vs u →
      Since c i w (v ∷ vs) u

-- at each of these walks, whatever a thread sees it sees as long as the slot is not taken
abbrev pub Lasting : List (Walk State) → Type 0
Lasting [] = Unit {0}
Lasting (w ∷ ws) =
    ((t c i : ℕ) → t < threads → c < cells → Sees w.state t c i → (u : Walk State) → Since c i w ws u → Sees u.state t c i)
    × Lasting ws

pub record Seeing (p : Program) (limits : Limits) (c : Course State) : Type 0 where
  pub watched : Every (Watching p limits) c.ticks
  pub lasting : Lasting c.ticks

-- "no version can reach it within L": the limit is below the number that stands for unseen, as every limit of a run is
unfoldable pub Seen : Type 0
Seen =
    (p : Program) (limits : Limits) (n : ℕ) → header_fine p.table ≡ true → p.operations ≤ largest → limits.operations + 4 ≤ largest
    → Every (Seeing p limits) (courses (machine p) limits n)

-- of an accepted table, within settings that are not refused
unfoldable pub SeenInRuns : Type 0
SeenInRuns =
    (table condition : List ℕ) (settings : Settings) → settings_fine settings ≡ true → judged table ≡ good
    → Every (Seeing (program_of table condition settings) (limits_of settings))
    (courses (machine (program_of table condition settings)) (limits_of settings) settings.executions)
