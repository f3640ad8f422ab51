use Rattle.layout.specs.Tables.{state}
use Rattle.rows.proofs.RowLaws.{checks-not, checks-on}
use Rattle.rows.proofs.check_row.Goals as goal

pub returns-then-not-holds : goal.returns-then-not-holds
returns-then-not-holds c =
    let args = c.args in
    λ clocks marks values opcode m. checks-not (state clocks marks values args.numbers.now) args.site.thread args.site.row opcode args.holds c.if-not-holds.true-raw

pub returns : goal.returns
returns c =
    let args = c.args in
    λ clocks marks values opcode m.
    checks-on (state clocks marks values args.numbers.now) args.site.thread args.site.row opcode _ (c.done.ensures clocks marks values opcode m) args.holds c.if-not-holds.false-raw
