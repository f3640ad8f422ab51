use mathlib.Core.Path.{ap, ◌∙◌}
use Rattle.std.specs.Prelude.{Err}
use Rattle.std.proofs.lemmas.Result.{err_from_is_err_and}
use Rattle.condition.specs.declared.BadByte.{BadByte}
use Rattle.condition.proofs.WholeLaws.{found-bad, found-end}
use Rattle.condition.proofs.first_bad.Goals as goal

pub returns-in_err-read : goal.returns-in_err-read
returns-in_err-read c =
    let g = c.args in
    let p = err_from_is_err_and c.from_residual.result c.from_residual.ensures.1 in
    found-bad g.threads g.bytes.now c.condition.ensures c.in_err-read.was (p.1 ∙ ap (λ (b : BadByte). Err b) p.2)

pub returns : goal.returns
returns c =
    let g = c.args in
    found-end g.threads g.bytes.now c.condition.ensures c.in_ok-read.was
