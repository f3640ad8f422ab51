use Prim.Native.Nat.{◌+◌}
use mathlib.Core.Path.{◌≡◌}
use lib.ListN.{drop}
use Rattle.rules.specs.Token.{run_length}
use Rattle.token.specs.Places.{is_of}
use Rattle.token.proofs.run_end.Given as goal

abbrev pub invariant-loop-to : goal.invariant-loop-to
invariant-loop-to l = l.to + run_length (is_of l.kind) (drop l.to l.text) ≡ l.at + run_length (is_of l.kind) (drop l.at l.text)
