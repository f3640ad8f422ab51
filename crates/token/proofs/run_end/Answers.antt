use mathlib.Core.Path.{sym, ◌∙◌}
use native.Mathlib.Omega.{arith}
use Rattle.token.specs.Places.{is_of}
use Rattle.token.proofs.PlaceLaws.{run_past, run_on, run-stops}
use Rattle.token.proofs.run_end.Goals as goal

pub returns-then-not-is_of : goal.returns-then-not-is_of
returns-then-not-is_of c =
    let a = c.args in
    omega (arith, run-stops (is_of a.kind) a.text.now c.loop-to.to c.loop-to-test.true (sym c.is_of.ensures ∙ c.if-not-is_of.true))

pub loop-to-preserved : goal.loop-to-preserved
loop-to-preserved c =
    let a = c.args in
    omega (arith, run_on (is_of a.kind) a.text.now c.loop-to.to c.loop-to-test.true (sym c.is_of.ensures ∙ c.if-not-is_of.false))

pub returns : goal.returns
returns c =
    let a = c.args in
    grind (arith, c.max.ensures, run_past (is_of a.kind) a.text.now c.loop-to.to c.loop-to-test.false, run_past (is_of a.kind) a.text.now a.at)
