use Prim.Native.Nat.{◌-◌}
use mathlib.Core.List.{[]}
use lib.ListN.{drop}
use Rattle.rules.specs.Text.{claimed}
use Rattle.claims.proofs.ClaimLaws.{Going}
use Rattle.claims.proofs.claimed.Given as goal

abbrev pub invariant-loop-i : goal.invariant-loop-i
invariant-loop-i l = Going l.text l.lines l.stop (l.lines - l.i) (claimed l.lines l.lines l.stop [] (drop l.at l.text)) l.claim
