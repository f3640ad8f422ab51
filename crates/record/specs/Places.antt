-- Where a schedule record that was found stands, and which thread of it. Assumes nothing.
use Rattle.std.specs.Prelude.{ℕ, ◌<◌, ◌≡◌, List, Option, Some, None}
use Rattle.rules.specs.Vector.{Whom, nobody, thread}
use Rattle.rules.specs.Path.{first_in}

-- it stands below a position
abbrev pub FoundBelow : ℕ → Option ℕ → Type 0
FoundBelow n (Some p) = p < n
FoundBelow n None = Unit

-- the definition's thread as the code's
abbrev pub found_as : Whom → Option ℕ
found_as nobody = None
found_as (thread t) = Some t

-- the lowest thread of these that is in a state
pub record First (states : List ℕ) (x : ℕ) (r : Option ℕ) : Type 0 where
  pub few : FoundBelow 5 r
  pub is : r ≡ found_as (first_in x states)
