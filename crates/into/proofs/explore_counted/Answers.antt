use mathlib.Core.Path.{sym, ◌∙◌}
use Rattle.into.proofs.ListedLaws.{refuses-list, goes-on}
use Rattle.into.proofs.explore_counted.Goals as goal

pub returns-then-miscounted : goal.returns-then-miscounted
returns-then-miscounted c =
    let at = c.args in
    refuses-list at.table.now at.condition.now at.settings at.path.now at.trace.now at.listed c.refused.result
    (sym c.miscounted.ensures ∙ c.if-miscounted.true) c.refused.ensures

pub returns : goal.returns
returns c =
    let at = c.args in
    goes-on at.table.now at.condition.now at.settings at.path.now at.trace.now at.listed c.explore.result
    (sym c.miscounted.ensures ∙ c.if-miscounted.false) c.explore.ensures
