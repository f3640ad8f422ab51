use Prim.Native.Nat.{◌-◌}
use mathlib.Core.Path.{◌≡◌}
use lib.ListN.{drop}
use Rattle.rules.specs.Token.{content}
use Rattle.token.specs.Places.{Between}
use Rattle.token.proofs.content.Given as goal

abbrev pub invariant-loop-i : goal.invariant-loop-i
invariant-loop-i l = (content (l.lines - l.i) (drop l.from l.text) ≡ content l.lines (drop l.at l.text)) × Between l.text l.at l.from
