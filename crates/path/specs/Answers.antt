-- What each answer of a public function tells its caller, whatever the bytes are. Assumes nothing.
use Rattle.std.specs.Prelude.{ℕ, ◌+◌, ◌*◌, ◌≤◌, ◌<◌, List, ◌≡◌, length, Option, Some, None, Result, Ok, Err}
use Rattle.record.specs.Places.{FoundBelow}
use Rattle.path.specs.declared.NotAdded.{NotAdded}
use Rattle.path.specs.declared.NotAdded.TheVariants.{Full, Preempted}

-- a branch that was added: it had room, and opened at most so many choices
pub record Opened (path : List ℕ) (len most n : ℕ) : Type 0 where
  pub room : 16 * len + 16 ≤ length path
  pub few : n ≤ most

-- one that was not: the bytes are as they were
pub record Refused (entry exit : List ℕ) (why : Type 0) : Type 0 where
  pub because : why
  pub same : exit ≡ entry

-- a new branch: it is refused as full exactly where the next record does not fit
abbrev pub PushedWithin : List ℕ → List ℕ → ℕ → ℕ → Result ℕ NotAdded → Type 0
PushedWithin entry exit len most (Ok n) = Opened entry len most n
PushedWithin entry exit len most (Err Full) = Refused entry exit (length entry < 16 * len + 16)
PushedWithin entry exit len most (Err Preempted) = Refused entry exit (16 * len + 16 ≤ length entry)

-- a thread that was chosen is one of the five
abbrev pub ChosenThread : Option (Option ℕ) → Type 0
ChosenThread (Some w) = FoundBelow 5 w
ChosenThread None = Unit
