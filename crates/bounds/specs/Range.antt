-- Vectors, counts and marks are in range, in every execution of every run. Assumes nothing.
--     RangeIn          of an execution
--     RangeHeld        of a program's machine
use Rattle.std.specs.Prelude.{ℕ}
use Rattle.rules.specs.Event.{Question}
use Rattle.rules.specs.Explorer.{Limits, Walk}
use Rattle.rules.specs.State.{State}
use Rattle.rules.specs.Machine.{Program, machine}
use Rattle.ledger.specs.History.{Every, Course, courses, end}
use Rattle.kept.specs.Kept.{Holding, Asking, Answerable, Keeps}
use Rattle.kept.specs.Held.{HoldsOfWalk, EndsOver}
use Rattle.bounds.specs.Bounds.{ProgramFits, BoundsLeft, InRange}

-- Of an execution: of every state that a tick is made from, with the entries of its trace, and of the state that is left
pub record RangeIn (p : Program) (c : Course State) : Type 0 where
  -- by the rows that each thread began
  pub by_rows : Every (HoldsOfWalk (machine p) (BoundsLeft p)) c.ticks
  pub end-by-rows : EndsOver (machine p) (BoundsLeft p) c.outcome
  -- so that no part, count or mark is out of range
  pub in-range : Every (λ (w : Walk State). InRange w.state) c.ticks
  pub end-in-range : InRange (end c).state

-- Of a program that fits, whose machine keeps what lets its questions be answered
unfoldable pub RangeHeld : Type 1
RangeHeld =
    (p : Program) → ProgramFits p → (Holds : Holding (machine p)) (Asked : Asking (machine p)) (Over : Holding (machine p)) →
    Keeps (machine p) Holds Asked Over → ((s : State) (n : ℕ) (q : Question) → Asked s n q → Answerable q) →
    (limits : Limits) (n : ℕ) → Every (RangeIn p) (courses (machine p) limits n)
