use mathlib.Core.Path.{◌∙◌}
use Rattle.accesses.proofs.AccessLaws.{raced, put-raced, put-done}
use Rattle.accesses.proofs.put_value.Goals as goal

pub returns-in_err-value : goal.returns-in_err-value
returns-in_err-value c = λ clocks marks opcode m. raced _ _ c.from_residual.ensures.1 _ _ _ _ _ ∙ put-raced _ _ _ _ _ _ _ _ c.in_err-value.was _

pub returns : goal.returns
returns c =
    let args = c.args in
    λ clocks marks opcode m.
    put-done _ _ _ _ _ _ _ _ c.in_ok-value.was _ _ args.values.now args.numbers.now _ _ c.register_at.ensures c.one_more.ensures _
    (c.complete.ensures _ _ _)
