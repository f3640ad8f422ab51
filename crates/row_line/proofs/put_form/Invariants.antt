use Prim.Native.Nat.{◌-◌}
use mathlib.Core.Path.{◌≡◌}
use lib.ListN.{length}
use Rattle.row_line.proofs.LookLaws.{Looking}
use Rattle.row_line.proofs.put_form.Given as goal

abbrev pub invariant-loop-from : goal.invariant-loop-from
invariant-loop-from l = Looking l.forms l.opcode l.kind l.from × (l.text ≡ l.initial.text)

abbrev pub decreases-loop-from : goal.decreases-loop-from
decreases-loop-from l = length l.forms - l.from
