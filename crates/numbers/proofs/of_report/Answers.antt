use Rattle.numbers.proofs.NumberLaws.{numbers-made}
use mathlib.Core.Path.{◌∙◌}
use Rattle.numbers.proofs.of_report.Goals as goal

pub returns : goal.returns
returns c =
    numbers-made c.args.done _ _ _ _ _ _ c.number.ensures c.at_fault-site.ensures.0 c.at_fault-site.ensures.1 (c.long8.ensures ∙ c.race_kind.ensures) c.other_thread.ensures c.summaries-t.ensures
