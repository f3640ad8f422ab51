use mathlib.Core.Path.{ap, ◌∙◌}
use Rattle.std.specs.Prelude.{Err}
use Rattle.std.proofs.lemmas.Result.{err_from_is_err_and}
use Rattle.rules.specs.Condition.{condition_at}
use Rattle.condition.specs.declared.BadByte.{BadByte}
use Rattle.condition.specs.Reads.{register_value}
use Rattle.condition.proofs.ReadLaws.{bare, alone, opened}
use Rattle.condition.proofs.GroupLaws as laws
use Rattle.condition.proofs.+condition_group.Goals as goal

pub condition-returns-then-deep-eq0 : goal.condition-returns-then-deep-eq0
condition-returns-then-deep-eq0 t c = bare _ _ c.args.bytes.now c.args.at c.if-deep-eq0.true c.comparison.ensures

pub condition-returns-then-byte_at-eq-OPENS : goal.condition-returns-then-byte_at-eq-OPENS
condition-returns-then-byte_at-eq-OPENS t c =
    let g = c.args in
    opened g.threads _ g.bytes.now g.at g.deep c.byte_at.ensures c.if-byte_at-eq-OPENS.true c.if-deep-eq0.false c.group.ensures

pub condition-returns : goal.condition-returns
condition-returns t c =
    let g = c.args in
    alone g.threads _ g.bytes.now g.at g.deep c.byte_at.ensures c.if-byte_at-eq-OPENS.false c.comparison-2.ensures

pub group-returns-in_err-member : goal.group-returns-in_err-member
group-returns-in_err-member t c =
    let g = c.args in
    let p = err_from_is_err_and c.from_residual-in_err-member.result c.from_residual-in_err-member.ensures.1 in
    laws.goes-bad g.bytes.now g.start (condition_at g.threads (register_value g.values.now) g.deep) _ _ _ c.loop-joint.invariant c.byte_at.ensures c.may_join.ensures c.loop-joint-test.true c.condition-in-loop-joint.ensures c.in_err-member.was (p.1 ∙ ap (λ (b : BadByte). Err b) p.2)

pub group-loop-joint-preserved : goal.group-loop-joint-preserved
group-loop-joint-preserved t c =
    let g = c.args in
    laws.goes-on g.bytes.now g.start (condition_at g.threads (register_value g.values.now) g.deep) _ _ _ c.loop-joint.invariant c.byte_at.ensures c.may_join.ensures c.loop-joint-test.true c.condition-in-loop-joint.ensures c.byte_at-joint.ensures c.in_ok-member.was c.joined_by-holds.ensures

pub group-returns-then-byte_at-eq-CLOSES : goal.group-returns-then-byte_at-eq-CLOSES
group-returns-then-byte_at-eq-CLOSES t c =
    let g = c.args in
    laws.closed g.bytes.now g.start (condition_at g.threads (register_value g.values.now) g.deep) _ _ _ c.loop-joint.invariant c.byte_at.ensures c.may_join.ensures c.loop-joint-test.false c.byte_at-2.ensures c.if-byte_at-eq-CLOSES.true

pub group-returns : goal.group-returns
group-returns t c =
    let g = c.args in
    laws.stuck g.bytes.now g.start (condition_at g.threads (register_value g.values.now) g.deep) _ _ _ c.loop-joint.invariant c.byte_at.ensures c.may_join.ensures c.loop-joint-test.false c.byte_at-2.ensures c.if-byte_at-eq-CLOSES.false
