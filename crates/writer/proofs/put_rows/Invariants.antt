use Prim.Native.Nat.{◌+◌, ◌-◌}
use Rattle.rules.specs.Writer.{rows_shown}
use Rattle.put.specs.Puts.{ToPut}
use Rattle.writer.proofs.put_rows.Given as goal

abbrev pub invariant-loop-index : goal.invariant-loop-index
invariant-loop-index l = ToPut l.initial.text l.text l.at l.to (rows_shown l.table l.count l.first) (rows_shown l.table (l.first + l.count - l.index) l.index)
