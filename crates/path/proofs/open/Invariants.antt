use Rattle.path.proofs.OpenWalks.{Summed}
use Prim.Native.Nat.{◌≤◌, ◌*◌}
use Rattle.path.proofs.open.Given as goal

abbrev pub invariant-loop-at : goal.invariant-loop-at
invariant-loop-at l = (l.at ≤ l.at-end) × (l.count ≤ 6 * l.at) × Summed l.path l.len l.at l.count
