use mathlib.Core.Path.{sym, ◌∙◌}
use borrow.Author.Tests.{not-true, not-false}
use Rattle.claims.proofs.ConcludeLaws.{bad-refused, ends-refused, broken-refused, ends-taken}
use Rattle.claims.proofs.concluded.Goals as goal
use Rattle.claims.proofs.concluded.Goals.{then-stop-length-via-then-stop-length, then-stop-length-via-else-stop-length+then-not-all}

pub returns-then-stop-length : goal.returns-then-stop-length
returns-then-stop-length c =
    let a = c.args in
    let says = sym c.in-Ok.is ∙ c.first_bad.ensures in
    elim c.then-stop-length.branch [
      | then-stop-length-via-then-stop-length w ↦
          ends-refused a.text.now a.lines a.at a.threads c.claimed-all.result c.claimed-all.ensures c.part.result.now c.part.ensures _ _ c.refused-then-stop-length.ensures says w.if-stop-length.true
      | then-stop-length-via-else-stop-length+then-not-all w ↦
          broken-refused a.text.now a.lines a.at a.threads c.claimed-all.result c.claimed-all.ensures c.part.result.now c.part.ensures _ _ c.refused-then-stop-length.ensures says (not-true _ w.if-not-all.true)
    ]

pub returns-in-Err : goal.returns-in-Err
returns-in-Err c =
    let a = c.args in
    bad-refused a.text.now a.lines a.at a.threads c.claimed-all.result c.claimed-all.ensures c.part.result.now c.part.ensures _ _ c.refused.ensures (sym c.in-Err.is ∙ c.first_bad.ensures)

pub returns-else-not-all : goal.returns-else-not-all
returns-else-not-all c =
    let a = c.args in
    ends-taken a.text.now a.lines a.at a.threads c.claimed-all.result c.claimed-all.ensures c.part.result.now c.part.ensures _ (sym c.in-Ok.is ∙ c.first_bad.ensures) c.if-stop-length.false (not-false _ c.if-not-all.false)
