use Rattle.decimal.proofs.Laws.{no_number, within, outside}
use Rattle.decimal.proofs.number_between.Goals as goal

pub returns-in_err-value : goal.returns-in_err-value
returns-in_err-value c =
    let args = c.args in
    cc (no_number args.least args.most 0, c.in_err-value.was)

pub returns-then-value-least : goal.returns-then-value-least
returns-then-value-least c =
    let args = c.args in
    cc (outside args.least args.most c.in_ok-value.value c.if-value-least.true, c.in_ok-value.was)

pub returns : goal.returns
returns c =
    let args = c.args in
    cc (within args.least args.most c.in_ok-value.value c.if-value-least.false, c.in_ok-value.was)
