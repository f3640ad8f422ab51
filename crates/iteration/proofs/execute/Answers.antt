use mathlib.Core.Path.{refl}
use Rattle.iteration.proofs.ExecuteLaws.{started, executed}
use Rattle.iteration.proofs.execute.Goals as goal

pub returns : goal.returns
returns c =
    let args = c.args in
    executed args.table.now args.shape.now args.terms args.cursor c.again-begins.result args.path.now args.trace.now _ _ c.walked.result refl refl
    (started _ _ _ c.start.ensures) c.again-begins.ensures c.walked.ensures
