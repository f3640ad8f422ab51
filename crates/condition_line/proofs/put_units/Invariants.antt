use Prim.Native.Nat.{◌-◌}
use mathlib.Core.Bool.{false}
use lib.ListN.{length, drop}
use Rattle.rules.specs.Writer.{units_shown}
use Rattle.put.specs.Puts.{ToPut}
use Rattle.condition_line.specs.Units.{Units}
use Rattle.condition_line.proofs.put_units.Given as goal

abbrev pub invariant-loop-i : goal.invariant-loop-i
invariant-loop-i l =
    ToPut l.initial.text l.text l.at l.to (units_shown (length l.condition) false l.condition) (units_shown (length l.condition - l.i) l.opened (drop l.from l.condition)) × Units (drop l.from l.condition)
