use Rattle.path.proofs.OpenWalks.{Below}
use Prim.Native.Nat.{◌*◌, ◌≤◌}
use lib.ListN.{length}
use Rattle.path.proofs.any_open.Given as goal

abbrev pub invariant-loop-last : goal.invariant-loop-last
invariant-loop-last l = (l.last ≤ l.len) × (16 * l.last ≤ length l.path) × Below l.path l.len l.last
