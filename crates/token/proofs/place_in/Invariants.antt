use Prim.Native.Nat.{◌+◌, ◌-◌}
use mathlib.Core.Path.{◌≡◌}
use lib.ListN.{length, drop}
use Rattle.rules.specs.Token.{place_in}
use Rattle.token.specs.Finds.{words_in}
use Rattle.token.proofs.place_in.Given as goal

abbrev pub invariant-loop-place : goal.invariant-loop-place
invariant-loop-place l = place_in l.place l.word (words_in (l.first + length l.words - l.place) (drop l.from l.words)) ≡ place_in l.first l.word (words_in (length l.words) l.words)
