use Rattle.layout.specs.Tables.{state}
use Rattle.rows.proofs.RowLaws.{jumps-on, jumps-far}
use Rattle.rows.proofs.jump_row.Goals as goal

pub returns-then-not-taken : goal.returns-then-not-taken
returns-then-not-taken c =
    let args = c.args in
    λ clocks marks values opcode m.
    jumps-on (state clocks marks values args.numbers.now) args.site.thread args.site.row opcode _ (c.done.ensures clocks marks values opcode m)
    args.taken args.target c.if-not-taken.true-raw

pub returns : goal.returns
returns c =
    let args = c.args in
    λ clocks marks values opcode m.
    jumps-far (state clocks marks values args.numbers.now) _ args.site.thread args.site.row opcode args.taken args.target c.if-not-taken.false-raw
    (c.complete.ensures clocks marks values)
