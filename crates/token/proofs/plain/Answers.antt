use mathlib.Core.Path.{ap, ◌∙◌}
use Rattle.rules.specs.Token.{plain_in}
use Rattle.token.proofs.plain.Goals as goal

pub returns : goal.returns
unfolding plain_in
returns c = c.digit_behind.ensures ∙ ap plain_in c.part.ensures
