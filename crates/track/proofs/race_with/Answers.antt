use mathlib.Core.Path.{ap, sym, ◌∙◌}
use Rattle.rules.specs.Cell.{of_kind}
use Rattle.vv.specs.Whom.{whom}
use Rattle.track.proofs.AheadLaws.{none-ahead}
use Rattle.track.proofs.race_with.Goals as goal

pub returns-then-at_most : goal.returns-then-at_most
returns-then-at_most c =
    ap (of_kind c.args.kind) (sym (none-ahead _ _ (sym c.at_most.ensures ∙ c.if-at_most.true)))

pub returns-in-Some : goal.returns-in-Some
returns-in-Some c =
    ap (of_kind c.args.kind) (sym (ap whom c.in-Some.is) ∙ c.ahead.ensures)

pub returns-in-None : goal.returns-in-None
returns-in-None c =
    ap (of_kind c.args.kind) (sym (ap whom c.in-None.is) ∙ c.ahead.ensures)
