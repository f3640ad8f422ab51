use Prim.Native.Nat.{◌+◌}
use mathlib.Core.Path.{◌≡◌}
use lib.ListN.{drop}
use Rattle.excerpt.specs.Excerpts.{shown_length}
use Rattle.excerpt.proofs.line_end.Given as goal

abbrev pub invariant-loop-to : goal.invariant-loop-to
invariant-loop-to l = l.to + shown_length (drop l.to l.text) ≡ l.at + shown_length (drop l.at l.text)
