use Prim.Native.Nat.{◌+◌}
use mathlib.Core.Path.{◌≡◌}
use lib.ListN.{drop}
use Rattle.rules.specs.Token.{line_length}
use Rattle.token.proofs.next_line.Given as goal

abbrev pub invariant-loop-to : goal.invariant-loop-to
invariant-loop-to l = l.to + line_length (drop l.to l.text) ≡ l.at + line_length (drop l.at l.text)
