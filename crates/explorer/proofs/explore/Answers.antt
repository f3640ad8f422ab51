use Prim.Native.Nat.{◌*◌}
use mathlib.Core.Bool.{true}
use mathlib.Core.Path.{◌≡◌, ap, sym, ◌∙◌}
use Rattle.std.specs.Prelude.{Err}
use Rattle.table.specs.declared.BadTable.{BadTable}
use lib.Dec.{eqb}
use lib.ListN.{length}
use borrow.Author.Tests.{not-true, not-false}
use Rattle.rules.specs.Table.{threads_of}
use Rattle.rules.specs.Condition.{is_condition}
use Rattle.rules.specs.Explored.{settings_fine}
use Rattle.iteration.specs.Executes.{RunReady}
use Rattle.settings.specs.Given.{settings_of}
use Rattle.explorer.proofs.RefuseLaws.{refuse-settings, refuse-path, refuse-trace, refuse-header, refuse-row, refuse-condition, judged-by, ready_made, ran-ready}
use Rattle.explorer.proofs.explore.Goals as goal

pub returns-then-not-settings_fine : goal.returns-then-not-settings_fine
returns-then-not-settings_fine c =
    refuse-settings c.refused.result _ _ c.args.settings _ _ (sym c.settings_fine.ensures ∙ not-true _ c.if-not-settings_fine.true-raw) c.refused.ensures

pub returns-then-not-holds_exactly : goal.returns-then-not-holds_exactly
returns-then-not-holds_exactly c =
    let fine : settings_fine (settings_of c.args.settings) ≡ true =
    sym c.settings_fine.ensures ∙ not-false _ c.if-not-settings_fine.false-raw in
    refuse-path c.refused-then-not-holds_exactly.result _ _ c.args.settings _ _ fine (sym c.holds_exactly.ensures ∙ not-true _ c.if-not-holds_exactly.true-raw) c.refused-then-not-holds_exactly.ensures

pub returns-then-not-holds_exactly-2 : goal.returns-then-not-holds_exactly-2
returns-then-not-holds_exactly-2 c =
    let fine : settings_fine (settings_of c.args.settings) ≡ true =
    sym c.settings_fine.ensures ∙ not-false _ c.if-not-settings_fine.false-raw in
    let path-held : eqb (length c.args.path.now) (16 * c.args.settings.branches) ≡ true =
    sym c.holds_exactly.ensures ∙ not-false _ c.if-not-holds_exactly.false-raw in
    refuse-trace c.refused-then-not-holds_exactly-2.result _ _ c.args.settings _ _ fine path-held (sym c.holds_exactly-2.ensures ∙ not-true _ c.if-not-holds_exactly-2.true-raw) c.refused-then-not-holds_exactly-2.ensures

pub returns-then-not-is_condition : goal.returns-then-not-is_condition
returns-then-not-is_condition c =
    let fine : settings_fine (settings_of c.args.settings) ≡ true =
    sym c.settings_fine.ensures ∙ not-false _ c.if-not-settings_fine.false-raw in
    let path-held : eqb (length c.args.path.now) (16 * c.args.settings.branches) ≡ true =
    sym c.holds_exactly.ensures ∙ not-false _ c.if-not-holds_exactly.false-raw in
    let trace-held : eqb (length c.args.trace.now) (16 * c.args.settings.operations) ≡ true =
    sym c.holds_exactly-2.ensures ∙ not-false _ c.if-not-holds_exactly-2.false-raw in
    let ready : RunReady c.args.table.now (settings_of c.args.settings) c.args.path.now c.args.trace.now =
    ready_made _ c.args.settings _ _ fine path-held trace-held _ c.judge.ensures c.in-Ok.is in
    let judged : let g = c.args in c.is_condition.result ≡ is_condition (threads_of g.table.now) g.condition.now =
    let g = c.args in
    judged-by g.table.now g.condition.now c.threads_of.ensures c.is_condition.ensures in
    refuse-condition _ _ c.args.settings _ _ ready c.refused-then-not-is_condition.result judged (not-true _ c.if-not-is_condition.true-raw) c.refused-then-not-is_condition.ensures

pub run-requires : goal.run-requires
run-requires c =
    let fine : settings_fine (settings_of c.args.settings) ≡ true =
    sym c.settings_fine.ensures ∙ not-false _ c.if-not-settings_fine.false-raw in
    let path-held : eqb (length c.args.path.now) (16 * c.args.settings.branches) ≡ true =
    sym c.holds_exactly.ensures ∙ not-false _ c.if-not-holds_exactly.false-raw in
    let trace-held : eqb (length c.args.trace.now) (16 * c.args.settings.operations) ≡ true =
    sym c.holds_exactly-2.ensures ∙ not-false _ c.if-not-holds_exactly-2.false-raw in
    let ready : RunReady c.args.table.now (settings_of c.args.settings) c.args.path.now c.args.trace.now =
    ready_made _ c.args.settings _ _ fine path-held trace-held _ c.judge.ensures c.in-Ok.is in
    ready

pub returns-else-not-is_condition : goal.returns-else-not-is_condition
returns-else-not-is_condition c =
    let fine : settings_fine (settings_of c.args.settings) ≡ true =
    sym c.settings_fine.ensures ∙ not-false _ c.if-not-settings_fine.false-raw in
    let path-held : eqb (length c.args.path.now) (16 * c.args.settings.branches) ≡ true =
    sym c.holds_exactly.ensures ∙ not-false _ c.if-not-holds_exactly.false-raw in
    let trace-held : eqb (length c.args.trace.now) (16 * c.args.settings.operations) ≡ true =
    sym c.holds_exactly-2.ensures ∙ not-false _ c.if-not-holds_exactly-2.false-raw in
    let ready : RunReady c.args.table.now (settings_of c.args.settings) c.args.path.now c.args.trace.now =
    ready_made _ c.args.settings _ _ fine path-held trace-held _ c.judge.ensures c.in-Ok.is in
    let judged : let g = c.args in c.is_condition.result ≡ is_condition (threads_of g.table.now) g.condition.now =
    let g = c.args in
    judged-by g.table.now g.condition.now c.threads_of.ensures c.is_condition.ensures in
    ran-ready _ _ c.args.settings _ _ ready c.run.result judged (not-false _ c.if-not-is_condition.false-raw) c.run.ensures

pub returns-in-Err-Header : goal.returns-in-Err-Header
returns-in-Err-Header c =
    let fine : settings_fine (settings_of c.args.settings) ≡ true =
    sym c.settings_fine.ensures ∙ not-false _ c.if-not-settings_fine.false-raw in
    let path-held : eqb (length c.args.path.now) (16 * c.args.settings.branches) ≡ true =
    sym c.holds_exactly.ensures ∙ not-false _ c.if-not-holds_exactly.false-raw in
    let trace-held : eqb (length c.args.trace.now) (16 * c.args.settings.operations) ≡ true =
    sym c.holds_exactly-2.ensures ∙ not-false _ c.if-not-holds_exactly-2.false-raw in
    refuse-header c.refused-in-Err-Header.result _ _ c.args.settings _ _ fine path-held trace-held _ c.judge.ensures (c.in-Err-Header.is ∙ ap (λ (b : BadTable). Err b) c.in-Err-Header.field-0-is) c.refused-in-Err-Header.ensures

pub returns-in-Err-Row : goal.returns-in-Err-Row
returns-in-Err-Row c =
    let fine : settings_fine (settings_of c.args.settings) ≡ true =
    sym c.settings_fine.ensures ∙ not-false _ c.if-not-settings_fine.false-raw in
    let path-held : eqb (length c.args.path.now) (16 * c.args.settings.branches) ≡ true =
    sym c.holds_exactly.ensures ∙ not-false _ c.if-not-holds_exactly.false-raw in
    let trace-held : eqb (length c.args.trace.now) (16 * c.args.settings.operations) ≡ true =
    sym c.holds_exactly-2.ensures ∙ not-false _ c.if-not-holds_exactly-2.false-raw in
    refuse-row c.refused-in-Err-Row.result _ _ c.args.settings _ _ fine path-held trace-held _ c.judge.ensures c.in-Err-Row.thread c.in-Err-Row.row (c.in-Err-Row.is ∙ ap (λ (b : BadTable). Err b) c.in-Err-Row.field-0-is) (rw c.in-Err-Row.field-0-is at c.refused-in-Err-Row.ensures)
