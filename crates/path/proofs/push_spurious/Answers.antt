use borrow.Author.Rules.{rules}
use mathlib.Core.Path.{◌∙◌}
use Rattle.path.proofs.PushLaws.{one-opens, spurious-refused, spurious-added, full-err}
use Rattle.std.proofs.lemmas.Result.{err_from_is_err_and}
use Rattle.path.proofs.push_spurious.Goals as goal

pub returns-in_err-room : goal.returns-in_err-room
returns-in_err-room c =
    let p = err_from_is_err_and c.from_residual.result c.from_residual.ensures.1 in
    let full = full-err c.in_err-room.ensures in
    rw (p.1, p.2, full.0) (spurious-refused _ _ _ full.1)

pub returns : goal.returns
returns c =
    spurious-added _ _ _ (search rules) _ (search rules) _ (c.from.ensures ∙ one-opens c.args.exploring) (search rules) c.begin.ensures
