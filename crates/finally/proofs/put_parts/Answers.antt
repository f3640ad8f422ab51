use Prim.Native.Nat.{◌-◌, ℕ}
use mathlib.Core.Path.{sym, ◌∙◌}
use native.Mathlib.Omega.{arith}
use lib.ListN.{length}
use Rattle.finally.proofs.FinalLaws.{parts-none, parts-on, parts_out, parts-end}
use Rattle.finally.proofs.put_parts.Goals as goal

pub returns-in_default : goal.returns-in_default
returns-in_default c =
    let k : ℕ = length c.args.condition.now - c.loop-part._part - 1 in
    parts-none _ _ _ _ _ _ _ c.loop-part.invariant k (omega arith) (sym c.in_default.is ∙ c.next_comparison.ensures)

pub returns-in_default-part_at : goal.returns-in_default-part_at
returns-in_default-part_at c =
    let k : ℕ = length c.args.condition.now - c.loop-part._part - 1 in
    parts_out _ _ _ _ _ _ _ c.loop-part.invariant k (omega arith) _ (sym c.in-Some.is ∙ c.next_comparison.ensures) (sym c.in_default-part_at.is ∙ c.part_at.ensures.same)

pub loop-part-preserved : goal.loop-part-preserved
loop-part-preserved c =
    parts-on _ _ _ _ _ _ _ c.loop-part.invariant _ (omega arith) _ (sym c.in-Some.is ∙ c.next_comparison.ensures) _ _ (sym c.in-Some-part_at.is ∙ c.part_at.ensures.same) c.put_compared-to.ensures

pub returns : goal.returns
returns c = parts-end _ _ _ _ _ _ _ c.loop-part.invariant (omega arith)
