use mathlib.Core.Path.{refl, ◌∙◌}
use native.Mathlib.Omega.{arith}
use lib.ListN.{drop}
use Rattle.excerpt.proofs.RowLaws.{line-adds, rows_on, rows_end}
use Rattle.excerpt.proofs.rows_before.Goals as goal

pub loop-passed-init : goal.loop-passed-init
loop-passed-init c = (omega arith, refl)

pub loop-passed-preserved : goal.loop-passed-preserved
loop-passed-preserved c =
    let text = c.args.text.now in (
      omega (arith, line-adds c.loop-passed.rows (drop c.loop-passed.at text) c.with_line-rows.ensures, c.loop-passed.invariant.0),
      rows_on text _ _ _ _ _ _ (omega arith) c.with_line-rows.ensures c.next_line-at.ensures ∙ c.loop-passed.invariant.1,
    )

pub returns : goal.returns
returns c =
    rows_end c.args.text.now c.loop-passed.at _ c.loop-passed.rows (omega arith) ∙ c.loop-passed.invariant.1
