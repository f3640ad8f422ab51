use Prim.Native.Nat.{◌-◌}
use mathlib.Core.Path.{◌∙◌}
use native.Mathlib.Omega.{arith}
use Rattle.excerpt.proofs.LineLaws.{begin-on, begin-end}
use Rattle.excerpt.proofs.line_begin.Goals as goal

pub loop-passed-preserved : goal.loop-passed-preserved
loop-passed-preserved c =
    begin-on _ _ _ _ _ (omega arith) c.next_line-at.ensures ∙ c.loop-passed.invariant

pub returns : goal.returns
returns c =
    omega (arith, c.loop-passed.invariant, begin-end c.args.text.now c.loop-passed.at (c.args.line - c.loop-passed._passed) (omega arith))
