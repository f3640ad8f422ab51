-- What the answer of an access stands for. Assumes nothing.
use Rattle.std.specs.Prelude.{ℕ, Result, Ok, Err}
use Rattle.rules.specs.Cell as rules
use Rattle.rules.specs.State.{State}
use Rattle.track.specs.declared.Race.{Race}

-- the value read or the race, with the state that is left
abbrev pub access_of : Result ℕ Race → State → rules.AccessResult
access_of (Ok v) st = rules.read v st
access_of (Err race) st = rules.raced race.kind race.other st
