-- What an exclusive change answers and leaves. It reads no marks, so it says the same of every marks. Assumes nothing.
use Rattle.std.specs.Prelude.{ℕ, ◌≡◌, Result, Ok, Err}
use Rattle.rules.specs.Cell as rules
use Rattle.rules.specs.Change.{Change, applied}
use Rattle.rules.specs.State.{State, Clocks, Marks, Values, Numbers, value, of_store}
use Rattle.track.specs.declared.Race.{Race}
use Rattle.layout.specs.Tables.{state}
use Rattle.atomic.specs.declared.Mutated.{Mutated}

-- the value found or the race, with the state that is left
abbrev pub mutated_of : Result Mutated Race → State → rules.AccessResult
mutated_of (Ok m) st = rules.read m.read st
mutated_of (Err race) st = rules.raced race.kind race.other st

-- the value that is answered as left; with a race there is none to answer
abbrev pub left_of : Result Mutated Race → ℕ → ℕ
left_of (Ok m) n = m.left
left_of (Err race) n = n

-- what a change leaves of the newest store's value
abbrev pub to_leave : Values → Numbers → ℕ → Change → ℕ
to_leave values numbers c change =
    let v = value values (of_store (rules.newest_of numbers c)) in
    rules.leaves (applied change v) v

-- from the state at entry to the clocks and values at exit
pub record Mutates (r : Result Mutated Race) (clocks exit_clocks : Clocks) (values exit_values : Values) (numbers : Numbers) (t c : ℕ) (change : Change) : Type 0 where
  pub access : (marks : Marks) →
      mutated_of r (state exit_clocks marks exit_values numbers) ≡ rules.mut_done (state clocks marks values numbers) t c change
  pub left : left_of r (to_leave values numbers c change) ≡ to_leave values numbers c change
