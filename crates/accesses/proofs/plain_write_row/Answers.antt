use mathlib.Core.Path.{ap, ◌∙◌}
use Rattle.track.specs.Tracked.{race_meant}
use Rattle.accesses.proofs.AccessLaws.{raced, write-raced, write_done}
use Rattle.accesses.proofs.plain_write_row.Goals as goal

pub returns-in_err-write : goal.returns-in_err-write
returns-in_err-write c =
    let args = c.args in
    λ marks opcode m.
    raced _ _ c.from_residual.ensures.1 _ _ _ _ _
    ∙ write-raced _ _ opcode args.value _ _ c.write.ensures.answer _ _ _ (c.write.ensures.left marks args.numbers.now) _ (ap race_meant c.in_err-write.was)

pub returns : goal.returns
returns c =
    let args = c.args in
    λ marks opcode m.
    write_done _ _ opcode args.value _ _ c.write.ensures.answer _ _ _ (c.write.ensures.left marks args.numbers.now) (ap race_meant c.in_ok-write.was) _ _
    c.one_more.ensures (c.complete.ensures _ _ _)
