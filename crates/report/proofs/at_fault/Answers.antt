use borrow.Enum.Refused.{opened}
use Rattle.report.proofs.CaseLaws.{no_place, placed, placeless}
use mathlib.Core.Path.{◌∙◌}
use Rattle.report.proofs.at_fault.Goals as goal

pub returns-then-names_place : goal.returns-then-names_place
returns-then-names_place c =
    placed _ _ _ c.in-Stopped.is _ c.names_place.ensures c.if-names_place.true

pub returns-else-names_place : goal.returns-else-names_place
returns-else-names_place c =
    let none = placeless _ _ _ c.in-Stopped.is _ c.names_place.ensures c.if-names_place.false in
    (c.nowhere.ensures.0 ∙ none.0, c.nowhere.ensures.1 ∙ none.1)

pub returns-in_default : goal.returns-in_default
returns-in_default c =
    let none = no_place c.args.answer (opened c.in_default.in_default-own.keys3) in
    (c.nowhere-in_default.ensures.0 ∙ none.0, c.nowhere-in_default.ensures.1 ∙ none.1)
