use mathlib.Core.Path.{sym, ap, ◌∙◌}
use Rattle.token.specs.Finds.{found_of}
use Rattle.claims.proofs.UnitLaws.{number-broken, number-here}
use Rattle.claims.proofs.number_behind.Goals as goal

pub returns-in_default : goal.returns-in_default
returns-in_default c =
    number-broken _ _ _ _ _ _ c.content-at.ensures.left c.token_end-to.ensures _ _ c.broken.ensures (sym c.number.ensures ∙ ap found_of c.in_default.is)

pub returns : goal.returns
returns c =
    number-here _ _ _ _ _ _ c.content-at.ensures.left c.token_end-to.ensures _ _ _ c.comparison.ensures (sym c.number.ensures ∙ ap found_of c.in-Some.is)
