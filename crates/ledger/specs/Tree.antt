-- Demand 3, the tree of executions, over any machine.
use Rattle.std.specs.Prelude.{ℕ, ◌<◌, List, [], false, ◌≡◌, ◌≢◌, length, get_or, take}
use Rattle.rules.specs.Path.{Choice}
use Rattle.rules.specs.Event.{Machine}
use Rattle.rules.specs.Explorer.{Limits, Execution, run}

-- what stands where there is no choice and no execution
abbrev pub no_choice : Choice
no_choice = Choice.says false

abbrev pub no_execution : Execution
no_execution = record { choices = []; trace = [] }

-- two lists of choices that are equal up to a branch, which both reach, and differ there
pub record Parted (xs ys : List Choice) : Type 0 where
  pub branch : ℕ
  pub one-reaches : branch < length xs
  pub other-reaches : branch < length ys
  pub equal-before : take branch xs ≡ take branch ys
  pub different : get_or xs branch no_choice ≢ get_or ys branch no_choice

-- "Any two executions made equal choices up to some branch, which both reach, then different ones."
unfoldable pub Tree : Type 1
Tree =
    (M : Machine) (limits : Limits) (n i j : ℕ) →
    i < j →
    j < length (run M limits n).history →
    Parted (get_or (run M limits n).history i no_execution).choices (get_or (run M limits n).history j no_execution).choices
