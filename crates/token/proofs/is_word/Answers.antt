use mathlib.Core.Path.{ap, ◌∙◌}
use Prim.Native.Nat.{ℕ}
use mathlib.Core.List.{List}
use Rattle.rules.specs.Vector.{equal}
use Rattle.token.proofs.PlaceLaws.{same-words}
use Rattle.token.proofs.is_word.Goals as goal

pub returns : goal.returns
returns c =
    c.eq.ensures ∙ same-words _ _ ∙ ap (λ (bs : List ℕ). equal bs c.args.word.now) c.part.ensures
