use Prim.Native.Nat.{◌≤◌}
use lib.ListN.{length}
use Rattle.replay.proofs.lines.replay.Given as goal

abbrev pub invariant-loop : goal.invariant-loop
invariant-loop g l = l.kept ≤ length l.text
