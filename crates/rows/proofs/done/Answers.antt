use Rattle.layout.specs.Tables.{state}
use Rattle.rows.proofs.RowLaws.{done-as}
use Rattle.rows.proofs.done.Goals as goal

pub returns : goal.returns
returns c =
    let args = c.args in
    λ clocks marks values opcode m.
    done-as (state clocks marks values args.numbers.now) _ args.site.thread args.site.row opcode _ c.one_more.ensures (c.complete.ensures clocks marks values)
