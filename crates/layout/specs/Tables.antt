-- The state as its four tables. Assumes nothing.
use Rattle.rules.specs.State.{State, Clocks, Marks, Values, Numbers}

abbrev pub state : Clocks → Marks → Values → Numbers → State
state clocks marks values numbers = record { clocks = clocks; marks = marks; values = values; numbers = numbers }
