use Rattle.path.proofs.OpenWalks.{StillLeft}
use Prim.Native.Nat.{◌*◌, ◌≤◌}
use mathlib.Core.Path.{◌≡◌}
use lib.ListN.{length}
use Rattle.path.proofs.step.Given as goal

abbrev pub invariant-loop-last : goal.invariant-loop-last
invariant-loop-last l =
    (l.last ≤ l.len) × (16 * l.last ≤ length l.initial.path) × (length l.path ≡ length l.initial.path) × StillLeft l.initial.path l.path l.len l.last
