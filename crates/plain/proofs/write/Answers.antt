use Rattle.plain.proofs.PlainLaws.{write-raced, write_done}
use Rattle.plain.proofs.write.Goals as goal

pub returns-in_err-track_write : goal.returns-in_err-track_write
returns-in_err-track_write c =
    let args = c.args in
    write-raced _ args.values.now args.thread args.plain args.value _ c.track_write.ensures.left _ _ c.from_residual.ensures.1
    c.in_err-track_write.ensures.answer

pub returns : goal.returns
returns c =
    let args = c.args in
    write_done _ args.values.now args.thread args.plain args.value _ c.track_write.ensures.left c.in_ok-track_write.ensures.answer
