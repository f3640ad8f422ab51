use native.Mathlib.Omega.{arith}
use Rattle.rules.specs.Condition.{condition_bytes}
use Rattle.rules.specs.Text.{table_bytes}
use Rattle.reader.proofs.ReadLaws.{no_table, no-condition, cleared-blank, said-refused, read-refused, read_taken}
use Rattle.reader.proofs.read.Goals as goal

pub returns-then-table-lt-TABLE_BYTES : goal.returns-then-table-lt-TABLE_BYTES
returns-then-table-lt-TABLE_BYTES c =
    let a = c.args in
    no_table a.text.now a.table.now a.condition.now c.if-table-lt-TABLE_BYTES.true

pub returns-then-condition-lt-CONDITION_BYTES : goal.returns-then-condition-lt-CONDITION_BYTES
returns-then-condition-lt-CONDITION_BYTES c =
    let a = c.args in
    no-condition a.text.now a.table.now a.condition.now c.if-table-lt-TABLE_BYTES.false c.if-condition-lt-CONDITION_BYTES.true

pub lines_from-requires : goal.lines_from-requires
lines_from-requires c =
    (cleared-blank table_bytes _ _ c.clear_all.ensures c.if-table-lt-TABLE_BYTES.false, cleared-blank condition_bytes _ _ c.clear_all-2.ensures c.if-condition-lt-CONDITION_BYTES.false)

pub returns-in-Err : goal.returns-in-Err
returns-in-Err c =
    let a = c.args in
    let e = said-refused a.text.now a.table.now a.condition.now c.if-table-lt-TABLE_BYTES.false c.if-condition-lt-CONDITION_BYTES.false _ _ c.lines_from.result _ c.lines_from.ensures c.in-Err.is in
    read-refused a.text.now a.table.now a.condition.now c.if-table-lt-TABLE_BYTES.false c.if-condition-lt-CONDITION_BYTES.false c.in-Err.at c.place_of-place.result c.place_of-place.ensures e _ _ _ _ c.clear_all-in-Err.ensures c.clear_all-in-Err-2.ensures (omega (arith, c.lines_from.auto, c.clear_all-2.auto, c.clear_all.auto)) (omega (arith, c.lines_from.auto, c.clear_all-2.auto, c.clear_all.auto))

pub returns-in-Ok : goal.returns-in-Ok
returns-in-Ok c =
    let a = c.args in
    read_taken a.text.now a.table.now a.condition.now c.if-table-lt-TABLE_BYTES.false c.if-condition-lt-CONDITION_BYTES.false _ _ c.lines_from.result _ c.lines_from.ensures c.in-Ok.is (omega (arith, c.lines_from.auto, c.clear_all-2.auto, c.clear_all.auto)) (omega (arith, c.lines_from.auto, c.clear_all-2.auto, c.clear_all.auto))
