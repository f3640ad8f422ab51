use Prim.Native.Nat.{◌-◌, ◌≤◌}
use mathlib.Core.List.{[]}
use mathlib.Core.Path.{◌≡◌}
use lib.ListN.{length, get_or, drop}
use Rattle.token.specs.Finds.{words_in}
use Rattle.token.proofs.word_at.Given as goal

abbrev pub invariant-loop-i : goal.invariant-loop-i
invariant-loop-i l = (l.i ≤ l.place) × (get_or (words_in (length l.words - l.i) (drop l.from l.words)) (l.place - l.i) [] ≡ get_or (words_in (length l.words) l.words) l.place [])
