use native.Mathlib.Omega.{arith}
use Rattle.unmet.proofs.PartLaws.{part_none, part-some}
use Rattle.unmet.proofs.part_at.Goals as goal

pub returns-then-condition-lt-COMPARISON-clause-same : goal.returns-then-condition-lt-COMPARISON-clause-same
returns-then-condition-lt-COMPARISON-clause-same c = part_none _ _ _ (omega arith)

pub returns-then-condition-at-clause-same : goal.returns-then-condition-at-clause-same
returns-then-condition-at-clause-same c = part_none _ _ _ (omega arith)

pub returns-clause-same : goal.returns-clause-same
returns-clause-same c =
    part-some _ _ _ (omega arith) _ _ _ _ c.u64_at-number.ensures c.wide8.ensures.same c.register-value.ensures c.compared.ensures
