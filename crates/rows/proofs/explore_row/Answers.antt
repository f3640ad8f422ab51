use Rattle.layout.specs.Tables.{state}
use Rattle.rows.proofs.RowLaws.{number-of, explores-skipping, explores-not, explores-other}
use Rattle.rows.proofs.explore_row.Goals as goal

pub returns-then-numbers-eq1 : goal.returns-then-numbers-eq1
returns-then-numbers-eq1 c =
    let args = c.args in
    λ clocks marks values opcode m.
    explores-skipping (state clocks marks values args.numbers.now) args.site.thread args.site.row opcode _ (c.done.ensures clocks marks values opcode m) args.on c.if-numbers-eq1.true

pub returns-then-numbers-flag : goal.returns-then-numbers-flag
returns-then-numbers-flag c =
    let args = c.args in
    λ clocks marks values opcode m.
    explores-not (state clocks marks values args.numbers.now) args.site.thread args.site.row opcode args.on _
    (number-of args.on _ c.from-flag.ensures)
    c.if-numbers-eq1.false c.if-numbers-flag.true

pub returns : goal.returns
returns c =
    let args = c.args in
    λ clocks marks values opcode m.
    explores-other (state clocks marks values args.numbers.now) args.site.thread args.site.row opcode args.on _
    (number-of args.on _ c.from-flag.ensures)
    c.if-numbers-eq1.false c.if-numbers-flag.false _ (c.done-2.ensures clocks marks values opcode m)
