use mathlib.Core.Path.{sym, ap, ◌∙◌}
use Rattle.token.specs.Finds.{owned_of}
use Rattle.claims.proofs.UnitLaws.{unit-symbol, unit-compared}
use Rattle.claims.proofs.unit_at.Goals as goal

pub returns-in-None : goal.returns-in-None
returns-in-None c =
    unit-symbol _ _ _ _ c.token_end-to.ensures _ (sym c.thread_register.ensures.is ∙ ap owned_of c.in-None.is) c.symbol_at.ensures

pub sign_behind-requires : goal.sign_behind-requires
sign_behind-requires c = c.thread_register.ensures.within c.in-Some.owned c.in-Some.is

pub returns-in-Some : goal.returns-in-Some
returns-in-Some c =
    unit-compared _ _ _ _ c.token_end-to.ensures _ _ (sym c.thread_register.ensures.is ∙ ap owned_of c.in-Some.is) c.sign_behind.ensures
