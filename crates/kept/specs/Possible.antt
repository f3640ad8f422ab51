-- A machine that never comes to the impossible outcome by itself never comes to it in any run. Assumes nothing.
--     PossibleIn                       of an execution
--     PossibleRun, NeverImpossible     of all executions, and of the verdict
use Rattle.std.specs.Prelude.{ℕ, ◌≤◌, ◌≡◌}
use Rattle.rules.specs.Event.{Machine, Site, impossible}
use Rattle.rules.specs.Explorer.{Limits, stopped, run}
use Rattle.ledger.specs.History.{Every, Course, courses, end}
use Rattle.kept.specs.Kept.{Holding, Asking, Never}
use Rattle.kept.specs.Held.{HoldsOfWalk, NotImpossible, HeldIn}

pub record PossibleIn (M : Machine) (Holds : Holding M) (Asked : Asking M) (Over : Holding M) (c : Course M.State) : Type 0 where
  -- it does not come out so: neither by the machine, nor at a record, nor for want of entries' room or of ticks
  pub never : NotImpossible c.outcome
  -- what the machine keeps holds at every tick, and of the walk left, however it ended
  pub held : HeldIn M Holds Asked Over c
  pub at-end : HoldsOfWalk M Over (end c)

pub record PossibleRun (M : Machine) (limits : Limits) (Holds : Holding M) (Asked : Asking M) (Over : Holding M) (n : ℕ) : Type 0 where
  pub executions : Every (PossibleIn M Holds Asked Over) (courses M limits n)
  -- nor does the run; with no execution allowed, which is refused before a run, there is none that could be told of
  pub verdict : 1 ≤ n → (site : Site) → (run M limits n).verdict ≡ stopped impossible site → ⊥

unfoldable pub NeverImpossible : Type 1
NeverImpossible =
    (M : Machine) (limits : Limits) (Holds : Holding M) (Asked : Asking M) (Over : Holding M) → Never M limits Holds Asked Over →
    (n : ℕ) → PossibleRun M limits Holds Asked Over n
