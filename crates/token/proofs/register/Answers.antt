use mathlib.Core.Path.{ap, ◌∙◌}
use Rattle.rules.specs.Token.{register_in}
use Rattle.token.proofs.register.Goals as goal

pub returns : goal.returns
unfolding register_in
returns c = c.digit_behind.ensures ∙ ap register_in c.part.ensures
