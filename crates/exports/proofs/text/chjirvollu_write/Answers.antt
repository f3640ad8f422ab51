use Rattle.exports.proofs.TextLaws.{written-no-call, written-made}
use borrow.Author.Rules.{rules}
use Rattle.exports.proofs.text.chjirvollu_write.Goals as goal

pub returns-then-numbers-ne-WRITE_NUMBERS : goal.returns-then-numbers-ne-WRITE_NUMBERS
returns-then-numbers-ne-WRITE_NUMBERS c =
    let a = c.args in
    written-no-call a.table.now a.condition.now a.text.now a.numbers.now c.if-numbers-ne-WRITE_NUMBERS.true

pub returns : goal.returns
returns c =
    let a = c.args in
    written-made a.table.now a.condition.now a.text.now a.numbers.now c.if-numbers-ne-WRITE_NUMBERS.false c.write.result c.written_numbers-two.result c.write.ensures c.written_numbers-two.ensures c.copy_from_slice.ensures.after
