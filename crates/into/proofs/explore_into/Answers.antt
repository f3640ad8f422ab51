use Rattle.std.proofs.Common.{◌∙◌, ap, List, cond, eqb, length}
use mathlib.Core.Bool.{◌&&◌}
use Rattle.report.specs.declared.Summary.{Summary}
use Rattle.settings.specs.Given.{settings_of}
use Rattle.into.proofs.ListedLaws.{listed}
use Rattle.into.proofs.explore_into.Goals as goal

pub returns : goal.returns
returns c =
    let args = c.args in
    let to = c.explore_counted-report.new in
    listed args.table.now args.condition.now (settings_of args.settings) args.path.now args.trace.now to.path to.trace c.explore_counted-report.result args.list.now
    c.explore_counted-report.ensures c.ran.ensures
    (c.copy_into.ensures ∙ ap (λ (rs : List Summary). cond (c.ran.result && eqb (length args.list.now) 5) rs args.list.now) c.summaries_of.ensures)
