use mathlib.Core.Path.{sym, ap, ◌∙◌}
use Rattle.token.specs.Finds.{found_of}
use Rattle.claims.proofs.UnitLaws.{sign-none, sign-other, sign-here}
use Rattle.claims.proofs.sign_behind.Goals as goal

pub returns-in_default : goal.returns-in_default
returns-in_default c =
    sign-none _ _ _ _ _ _ c.content-at.ensures.left c.token_end-to.ensures _ c.broken.ensures (sym c.symbol.ensures ∙ ap found_of c.in_default.is)

pub returns-then-sign : goal.returns-then-sign
returns-then-sign c =
    sign-other _ _ _ _ _ _ c.content-at.ensures.left c.token_end-to.ensures _ (sym c.symbol.ensures ∙ ap found_of c.in-Some.is) _ c.broken-then-sign.ensures c.if-sign.true

pub returns : goal.returns
returns c =
    sign-here _ _ _ _ _ _ c.content-at.ensures.left c.token_end-to.ensures _ (sym c.symbol.ensures ∙ ap found_of c.in-Some.is) _ c.if-sign.false c.number_behind.ensures
