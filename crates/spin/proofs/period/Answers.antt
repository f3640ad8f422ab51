use Prim.Native.Nat.{suc}
use mathlib.Core.Path.{sym, ◌∙◌}
use native.Mathlib.Omega.{arith}
use Rattle.rules.specs.Table.{max_rows}
use Rattle.spin.specs.Loops.{repeats_in}
use Rattle.spin.proofs.LoopLaws.{period-from, first_on, first_found, first-none}
use Rattle.spin.proofs.period.Goals as goal

pub loop-p-init : goal.loop-p-init
loop-p-init c = period-from _ _

pub returns-then-repeats : goal.returns-then-repeats
returns-then-repeats c =
    sym (first_found (repeats_in _ _) _ _ (suc max_rows) c.loop-p.p (omega arith) (sym c.repeats.ensures ∙ c.if-repeats.true)) ∙ c.loop-p.invariant

pub loop-p-preserved : goal.loop-p-preserved
loop-p-preserved c =
    first_on (repeats_in _ _) _ _ (suc max_rows) c.loop-p.p (omega arith) (sym c.repeats.ensures ∙ c.if-repeats.false) ∙ c.loop-p.invariant

pub returns : goal.returns
returns c = sym (first-none (repeats_in _ _) _ _ (suc max_rows) c.loop-p.p (omega arith)) ∙ c.loop-p.invariant
