use Rattle.layout.specs.Tables.{state}
use Rattle.rows.proofs.RowLaws.{joins-through, joins-blocked}
use Rattle.rows.proofs.join_row.Goals as goal

pub returns-then-is_ended : goal.returns-then-is_ended
returns-then-is_ended c =
    let args = c.args in
    λ marks values opcode m.
    joins-through args.clocks.now _ c.join_into-then-is_ended.new.clocks marks values args.numbers.now args.site.thread args.site.row opcode _
    (c.done.ensures c.join_into-then-is_ended.new.clocks marks values opcode m)
    (c.raise.ensures marks values args.numbers.now)
    args.target _ _ c.is_ended.ensures c.if-is_ended.true c.join_into.ensures c.join_into-then-is_ended.ensures

pub returns : goal.returns
returns c =
    let args = c.args in
    λ marks values opcode m.
    joins-blocked (state args.clocks.now marks values args.numbers.now) _ args.site.thread args.site.row opcode args.target _ c.is_ended.ensures c.if-is_ended.false
    (c.set_blocked.ensures args.clocks.now marks values)
