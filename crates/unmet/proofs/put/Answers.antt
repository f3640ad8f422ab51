use mathlib.Core.Path.{sym, ◌∙◌}
use native.Mathlib.Omega.{arith}
use Rattle.put.proofs.PutLaws.{puts-are}
use Rattle.condition_line.proofs.FineLaws.{fine-claim}
use Rattle.unmet.proofs.PartLaws.{claim-is, claim-none, claim-many}
use Rattle.unmet.proofs.put.Goals as goal

pub put_condition-requires : goal.put_condition-requires
put_condition-requires c = (fine-claim _ c.if-threads-le-ONE_DIGIT.true _ (sym c.is_condition.ensures ∙ c.if-is_condition.true)).0

pub returns-then-is_condition : goal.returns-then-is_condition
returns-then-is_condition c =
    puts-are _ _ _ _ _ _ (claim-is _ _ c.if-threads-le-ONE_DIGIT.true (sym c.is_condition.ensures ∙ c.if-is_condition.true)) c.put_condition.ensures

pub returns-else-is_condition : goal.returns-else-is_condition
returns-else-is_condition c = claim-none _ _ _ _ (omega arith) c.if-threads-le-ONE_DIGIT.true (sym c.is_condition.ensures ∙ c.if-is_condition.false)

pub returns-else-threads-le-ONE_DIGIT : goal.returns-else-threads-le-ONE_DIGIT
returns-else-threads-le-ONE_DIGIT c = claim-many _ _ _ _ (omega arith) c.if-threads-le-ONE_DIGIT.false
