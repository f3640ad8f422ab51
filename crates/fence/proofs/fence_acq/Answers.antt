use mathlib.Core.Path.{sym, ◌∙◌}
use Rattle.fence.proofs.FenceLaws.{cells-start, cells-on, cells-end}
use Prim.Native.Nat.{◌-◌}
use Rattle.fence.proofs.fence_acq.Goals as goal

pub loop-cell-init : goal.loop-cell-init
loop-cell-init c = cells-start _ _ _ c.args.thread c.args.cells

pub loop-cell-preserved : goal.loop-cell-preserved
loop-cell-preserved c =
    cells-on _ _ _ c.args.thread _ _ c.loop-cell-test.true _ c.fence_acq_cell.ensures ∙ c.loop-cell.invariant

pub returns : goal.returns
returns c =
    let args = c.args in
    sym (cells-end _ args.marks.now args.numbers.now args.thread _ c.loop-cell.cell c.loop-cell-test.false) ∙ c.loop-cell.invariant
