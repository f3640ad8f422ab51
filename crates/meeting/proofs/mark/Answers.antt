use borrow.Enum.Refused.{opened}
use mathlib.Core.Path.{refl}
use Rattle.meeting.proofs.MarkedLaws.{mark-other, mark-all}
use borrow.Author.Rules.{rules}
use Rattle.meeting.proofs.mark.Goals as goal

pub returns-in_default : goal.returns-in_default
returns-in_default c =
    let args = c.args in
    mark-other args.cursor _ _ _ args.bound args.question (opened c.in_default.in_default-own.keys2) refl args.path.now

pub returns : goal.returns
returns c =
    let args = c.args in
    mark-all args.cursor _ _ _ args.bound args.question _ c.mark_threads.ensures (search rules) c.in-Thread.is
