-- The measures of the cycle of calls {condition, group}. `condition` at depth d calls `group` at d - 1, and `group` at d calls
-- `condition` at the same d, so `group`'s measure lies between: 2d for `condition`, 2d + 1 for `group`. Assumes nothing.
use Rattle.std.proofs.Common.{◌+◌, ◌-◌, length}
use Rattle.rules.specs.Condition.{condition_at}
use Rattle.condition.specs.Reads.{register_value}
use Rattle.condition.proofs.GroupLaws as laws
use Rattle.condition.proofs.+condition_group.Given as goal

abbrev pub decreases-condition : goal.decreases-condition
decreases-condition l = l.deep + l.deep

abbrev pub decreases-group : goal.decreases-group
decreases-group l = l.deep + l.deep + 1

abbrev pub invariant-group-loop-joint : goal.invariant-group-loop-joint
invariant-group-loop-joint l =
    laws.Goes l.bytes l.fn.start (condition_at l.threads (register_value l.values) l.deep) l.at l.joint l.holds

abbrev pub decreases-group-loop-joint : goal.decreases-group-loop-joint
decreases-group-loop-joint l = length l.bytes - l.at
