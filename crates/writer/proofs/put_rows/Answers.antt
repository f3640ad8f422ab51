use Prim.Native.Nat.{◌+◌, ◌-◌}
use mathlib.Core.Path.{◌≡◌}
use native.Mathlib.Omega.{arith}
use Rattle.put.proofs.PutLaws.{coming-all, coming-on, come}
use Rattle.writer.proofs.TextLaws.{rows_out, rows_next}
use Rattle.writer.proofs.put_rows.Goals as goal

pub bounds-table-1 : goal.bounds-table-1
bounds-table-1 c = omega (arith, c.requires.0.header)

pub bounds-table-7 : goal.bounds-table-7
bounds-table-7 c = omega (arith, c.requires.0.header)

pub overflow_add-values : goal.overflow_add-values
overflow_add-values c = omega (arith, c.wide8.ensures.bounded, c.wide8-2.ensures.bounded)

pub loop-index-init : goal.loop-index-init
loop-index-init c =
    let all : c.args.first + c.args.count - c.args.first ≡ c.args.count = omega arith in
    rw all (coming-all _ _ _ (omega arith) (omega arith))

pub loop-index-preserved : goal.loop-index-preserved
loop-index-preserved c =
    let one-less : c.args.first + c.args.count - (c.loop-index.index + 1) ≡ c.args.first + c.args.count - c.loop-index.index - 1 = omega arith in
    rw one-less
    (coming-on _ _ _ _ _ _ _ _ _ _ (rows_next c.args.table.now (c.args.first + c.args.count - c.loop-index.index) c.loop-index.index (omega arith) _ (omega (arith, c.wide8.ensures.same, c.wide8-2.ensures.same))) c.loop-index.invariant c.put_row-to.ensures)

pub returns : goal.returns
returns c =
    come _ _ _ _ _ _ (rows_out c.args.table.now (c.args.first + c.args.count - c.loop-index.index) c.loop-index.index (omega arith)) c.loop-index.invariant
