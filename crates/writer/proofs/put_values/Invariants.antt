use Prim.Native.Nat.{◌+◌, ◌-◌}
use Rattle.rules.specs.Writer.{values_shown}
use Rattle.put.specs.Puts.{ToPut}
use Rattle.writer.proofs.put_values.Given as goal

abbrev pub invariant-loop-i : goal.invariant-loop-i
invariant-loop-i l = ToPut l.initial.text l.text l.at l.to (values_shown l.table l.count l.first) (values_shown l.table (l.first + l.count - l.i) l.i)
