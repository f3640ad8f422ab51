use Prim.Native.Nat.{◌-◌}
use mathlib.Core.Path.{◌≡◌}
use lib.ListN.{length}
use Rattle.excerpt.specs.Excerpts.{token_before}
use Rattle.excerpt.proofs.token_before.Given as goal

abbrev pub invariant-loop-passed : goal.invariant-loop-passed
invariant-loop-passed l = token_before l.text l.place (length l.text - l._passed) l.found l.from ≡ token_before l.text l.place (length l.text) l.begin l.begin
