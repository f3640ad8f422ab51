-- What a plain write answers and leaves. It touches neither marks nor numbers, so it says the same of all. Assumes nothing.
use Rattle.std.specs.Prelude.{ℕ, ◌≡◌}
use Rattle.rules.specs.Cell as rules
use Rattle.rules.specs.Plain.{plain_write_race, plain_write_done}
use Rattle.rules.specs.State.{State, Clocks, Marks, Values, Numbers}
use Rattle.layout.specs.Tables.{state}

-- with a race, what stood there
abbrev pub unless_raced : rules.Race → State → State → State
unless_raced rules.no_race st written = written
unless_raced (rules.race_of kind other) st written = st

-- from the clocks and values at entry to those at exit
pub record Writes (race : rules.Race) (clocks exit_clocks : Clocks) (values exit_values : Values) (t c v : ℕ) : Type 0 where
  pub answer : race ≡ plain_write_race clocks t c
  pub left : (marks : Marks) (numbers : Numbers) →
      state exit_clocks marks exit_values numbers
      ≡ unless_raced race (state clocks marks values numbers) (plain_write_done (state clocks marks values numbers) t c v)
