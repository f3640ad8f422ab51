use Rattle.rows.proofs.RowLaws.{fences-as}
use Rattle.rows.proofs.fence_row.Goals as goal

pub returns : goal.returns
returns c =
    let args = c.args in
    λ p values opcode m e.
    fences-as args.clocks.now _ c.fence.new.clocks args.marks.now values args.numbers.now args.site.thread args.site.row opcode _
    (c.done.ensures c.fence.new.clocks args.marks.now values opcode m)
    (c.raise.ensures args.marks.now values args.numbers.now)
    p args.cells args.order e c.fence.ensures
