use Rattle.atomic.proofs.AccessLaws.{passed_up}
use Rattle.plain.proofs.PlainLaws.{read-raced, read_done}
use Rattle.plain.proofs.read.Goals as goal

pub returns-in_err-track_read : goal.returns-in_err-track_read
returns-in_err-track_read c =
    let args = c.args in
    λ marks numbers.
    passed_up _ _ _ _ c.from_residual.ensures.1
    (read-raced _ args.values.now args.thread args.plain marks numbers _ c.track_read.ensures.left _ _ c.in_err-track_read.ensures.answer)

pub returns : goal.returns
returns c =
    let args = c.args in
    λ marks numbers.
    read_done _ args.values.now args.thread args.plain marks numbers _ c.track_read.ensures.left c.in_ok-track_read.ensures.answer
