use mathlib.Core.Bool.{true, false}
use mathlib.Core.Path.{ap, sym, ◌∙◌}
use native.Mathlib.Omega.{arith}
use Rattle.table.proofs.Walks.{first_on, first_found, first-none}
use Rattle.coverage.specs.Covered.{one_below}
use Rattle.coverage.proofs.SearchLaws.{first-all, below_some, below-none, told}
use Rattle.coverage.proofs.search.first_in.Goals as goal

pub loop-row-init : goal.loop-row-init
loop-row-init c = first-all _ _ _ _ _ c.wide16-count.ensures.same

pub returns-then-switches : goal.returns-then-switches
returns-then-switches c =
    let on = c.args.on in
    sym (below_some _ _ _ (first_found _ _ _ (omega arith) (told on _ _ _ true c.switches.ensures c.row_of.ensures.is c.if-switches.true)) (omega arith)) ∙ c.loop-row.invariant

pub loop-row-preserved : goal.loop-row-preserved
loop-row-preserved c =
    let on = c.args.on in
    ap (one_below c.wide16-count.result) (first_on _ _ _ (omega arith) (told on _ _ _ false c.switches.ensures c.row_of.ensures.is c.if-switches.false)) ∙ c.loop-row.invariant

pub returns : goal.returns
returns c =
    sym (below-none _ 0 _ (first-none _ _ _ (omega arith) (omega arith))) ∙ c.loop-row.invariant
