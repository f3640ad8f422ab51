-- What a tracked access answers and leaves: the race or none, and the clocks. Assumes nothing.
use Rattle.std.specs.Prelude.{◌≡◌, Result, Ok, Err}
use Rattle.rules.specs.Cell as rules
use Rattle.rules.specs.State.{Clocks}
use Rattle.track.specs.declared.Race.{Race}

-- the race that each answer stands for
abbrev pub race_meant : Result Unit Race → rules.Race
race_meant (Ok done) = rules.no_race
race_meant (Err race) = rules.race_of race.kind race.other

-- the race that is answered and the clocks that are left, as they are to be
pub record Tracked (race : rules.Race) (clocks : Clocks) (to_answer : rules.Race) (to_leave : Clocks) : Type 0 where
  pub answer : race ≡ to_answer
  pub left : clocks ≡ to_leave
