use Prim.Native.Nat.{◌-◌}
use lib.ListN.{length}
use Rattle.decode.specs.Ops.{room_meant}
use Rattle.form.proofs.TriedLaws.{Trying}
use Rattle.form.proofs.tried.Given as goal

abbrev pub invariant-loop-from : goal.invariant-loop-from
invariant-loop-from l = Trying (room_meant l.room) l.forms l.text l.at l.from l.best

abbrev pub decreases-loop-from : goal.decreases-loop-from
decreases-loop-from l = length l.forms - l.from
