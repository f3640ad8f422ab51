use Prim.Native.Nat.{ℕ, ◌+◌, ◌-◌}
use mathlib.Core.Path.{◌≡◌, ap}
use native.Mathlib.Omega.{arith}
use lib.ListN.{length, get_or}
use Rattle.put.proofs.PutLaws.{coming-all, coming-on, come}
use Rattle.condition_line.specs.Units.{unit_bytes}
use Rattle.condition_line.proofs.UnitLaws.{units-within, units-on, units-next, units-end, units-out}
use borrow.Author.Rules.{rules}
use Rattle.condition_line.proofs.put_units.Goals as goal

pub loop-i-init : goal.loop-i-init
loop-i-init c =
    let all : length c.args.condition.now - 0 ≡ length c.args.condition.now = omega arith in
    rw all (coming-all _ _ _ (omega arith) (omega arith), c.requires)

pub returns-then-condition-from : goal.returns-then-condition-from
returns-then-condition-from c =
    come _ _ _ _ _ _ (units-end c.args.condition.now c.loop-i.from (length c.args.condition.now - c.loop-i.i) c.loop-i.opened c.if-condition-from.true) c.loop-i.invariant.0

pub put_unit-to-requires : goal.put_unit-to-requires
put_unit-to-requires c = (c.loop-i.invariant.1, search rules)

pub overflow_add-from : goal.overflow_add-from
overflow_add-from c =
    omega (arith, c.unit_bytes-from.ensures, units-within c.args.condition.now c.loop-i.from c.if-condition-from.false c.loop-i.invariant.1)

pub loop-i-preserved : goal.loop-i-preserved
loop-i-preserved c =
    let condition = c.args.condition.now in
    let past : c.loop-i.from + c.unit_bytes-from.result ≡ c.loop-i.from + unit_bytes (get_or condition c.loop-i.from 0) = ap (λ (n : ℕ). c.loop-i.from + n) c.unit_bytes-from.ensures in
    let one-less : length condition - (c.loop-i.i + 1) ≡ length condition - c.loop-i.i - 1 = omega arith in
    rw (past, one-less) (
      coming-on _ _ _ _ _ _ _ _ _ _ (units-next condition c.loop-i.from (length condition - c.loop-i.i) c.loop-i.opened (omega arith) c.if-condition-from.false) c.loop-i.invariant.0 c.put_unit-to.ensures,
      units-on condition c.loop-i.from c.if-condition-from.false c.loop-i.invariant.1,
    )

pub returns : goal.returns
returns c =
    come _ _ _ _ _ _ (units-out c.args.condition.now c.loop-i.from (length c.args.condition.now - c.loop-i.i) c.loop-i.opened (omega arith)) c.loop-i.invariant.0
