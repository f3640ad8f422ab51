use Rattle.exports.proofs.TextLaws.{read-no-call, read_made}
use borrow.Author.Rules.{rules}
use Rattle.exports.proofs.text.chjirvollu_read.Goals as goal

pub returns-then-numbers-ne-READ_NUMBERS : goal.returns-then-numbers-ne-READ_NUMBERS
returns-then-numbers-ne-READ_NUMBERS c =
    let a = c.args in
    read-no-call a.text.now a.table.now a.condition.now a.numbers.now c.if-numbers-ne-READ_NUMBERS.true

pub returns : goal.returns
returns c =
    let a = c.args in
    read_made a.text.now a.table.now a.condition.now a.numbers.now c.if-numbers-ne-READ_NUMBERS.false c.read.result c.read_numbers-five.result c.read.ensures c.read_numbers-five.ensures c.copy_from_slice.ensures.after
