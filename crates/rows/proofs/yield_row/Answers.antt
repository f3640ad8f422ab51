use Rattle.layout.specs.Tables.{state}
use Rattle.rows.proofs.RowLaws.{yields-as}
use Rattle.rows.proofs.yield_row.Goals as goal

pub returns : goal.returns
returns c =
    let args = c.args in
    λ marks values opcode m.
    yields-as (state args.clocks.now marks values args.numbers.now) _ args.site.thread args.site.row opcode _ _ c.one_more.ensures
    (c.set_yield.ensures marks values) (c.complete.ensures args.clocks.now marks values)
