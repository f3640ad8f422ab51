-- What a machine keeps holds at every tick of every execution of every run. Assumes nothing.
--     HoldsOfWalk, AskedAt, EndsOver   of a walk, of what it asks next, of how an execution came out
--     HeldIn                           of an execution
--     HeldByAll                        the statement
use Rattle.std.specs.Prelude.{ℕ, ◌+◌, List, Bool, ◌≡◌, length}
use Rattle.rules.specs.Event.{Machine, Entry, Question, asks, Site, impossible}
use Rattle.rules.specs.Explorer.{Limits, Walk, Tick, faulted}
use Rattle.ledger.specs.History.{Every, Course, courses, left_by}
use Rattle.kept.specs.Kept.{Holding, Asking, Keeps, Answerable}

-- of a walk: of its state, with the entries of its trace
abbrev pub HoldsOfWalk : (M : Machine) → Holding M → Walk M.State → Type 0
HoldsOfWalk M Holds w = Holds w.state (length w.trace)

-- of a walk whose next tick asks: of the state that asks, with the entries that are then noted
abbrev pub AskedAt : (M : Machine) → Asking M → Walk M.State → Type 0
AskedAt M Asked w =
    (s : M.State) (es : List Entry) (exploring : Bool) (q : Question) → (M.next w.state).move ≡ asks s es exploring q →
    Asked s (length w.trace + length es) q

-- not by the impossible outcome
abbrev pub NotImpossible : {S : Type 0} → Tick S → Type 0
NotImpossible {S} t = (site : Site) (w : Walk S) → t ≡ faulted impossible site w → ⊥

-- of the state that is left, with some number of entries: that of the trace, unless the entries had no room, which is an impossible
-- outcome
abbrev pub EndsOver : (M : Machine) → Holding M → Tick M.State → Type 0
EndsOver M Over t = (n : ℕ) × Over (left_by t).state n × (NotImpossible t → n ≡ length (left_by t).trace)

pub record HeldIn (M : Machine) (Holds : Holding M) (Asked : Asking M) (Over : Holding M) (c : Course M.State) : Type 0 where
  -- between its ticks
  pub at-ticks : Every (HoldsOfWalk M Holds) c.ticks
  -- wherever it asks
  pub at-questions : Every (AskedAt M Asked) c.ticks
  -- and where it is over or has met a fault
  pub at-end : EndsOver M Over c.outcome

-- Of any machine that keeps it, and whose questions can be answered
unfoldable pub HeldByAll : Type 1
HeldByAll =
    (M : Machine) (limits : Limits) (Holds : Holding M) (Asked : Asking M) (Over : Holding M) → Keeps M Holds Asked Over →
    ((s : M.State) (n : ℕ) (q : Question) → Asked s n q → Answerable q) →
    (n : ℕ) → Every (HeldIn M Holds Asked Over) (courses M limits n)
