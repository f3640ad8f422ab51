use mathlib.Core.Path.{ap, ◌∙◌}
use native.Mathlib.Omega.{arith}
use Rattle.rules.specs.Token.{number_in}
use Rattle.token.specs.Finds.{found_of}
use Rattle.token.proofs.WordLaws.{number-zero, number-any}
use Rattle.token.proofs.number.Goals as goal

pub returns-then-word-eq48 : goal.returns-then-word-eq48
returns-then-word-eq48 c =
    number-zero c.part-word.result.now c.if-word-gt1.true c.if-word-eq48.true ∙ ap number_in c.part-word.ensures

pub returns : goal.returns
returns c =
    ap found_of c.number.ensures ∙ number-any c.part-word.result.now (λ h e. grind arith) ∙ ap number_in c.part-word.ensures
