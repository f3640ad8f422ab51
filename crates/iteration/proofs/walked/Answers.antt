use borrow.Enum.Refused.{opened}
use Prim.Native.Nat.{◌-◌}
use native.Mathlib.Omega.{arith}
use Rattle.iteration.proofs.WalkedLaws.{ticking-none, ticking-more, walks-ended, walks-spent}
use Rattle.iteration.proofs.walked.Goals as goal

pub loop-init : goal.loop-init
loop-init c =
    let args = c.args in
    (omega arith, ticking-none args.table.now args.shape.now args.limits args.cursor _ c.requires.1)

pub tick-ticked-requires : goal.tick-ticked-requires
tick-ticked-requires c =
    (c.requires.0, c.loop.invariant.1.gone.placed, omega (arith, c.loop.invariant.1.gone.few, c.ticks-fuel.ensures.few, c.requires.2, c.loop-test.true))

pub shape_of-path-in_default : goal.shape_of-path-in_default
shape_of-path-in_default c =
    omega (arith, c.tick-ticked.auto, c.loop.invariant.1.same-path, c.loop.invariant.1.same-trace)

pub shape_of-trace-in_default : goal.shape_of-trace-in_default
shape_of-trace-in_default c =
    omega (arith, c.tick-ticked.auto, c.loop.invariant.1.same-path, c.loop.invariant.1.same-trace)

pub returns-in_default : goal.returns-in_default
returns-in_default c =
    walks-ended _ _ _ _ _ c.loop.invariant.1 c.tick-ticked.result c.tick-ticked.ensures (opened c.in_default.in_default-own.keys2)
    (omega (arith, c.loop-test.true, c.ticks-fuel.ensures.is)) (omega (arith, c.loop-test.true, c.ticks-fuel.ensures.few))

pub loop-preserved : goal.loop-preserved
loop-preserved c = (
  omega (arith, c.loop-test.true),
  ticking-more _ _ _ _ _ c.loop.invariant.1 c.tick-ticked.result c.tick-ticked.ensures c.in-Goes.is
      (omega (arith, c.tick-ticked.auto)) (omega (arith, c.tick-ticked.auto)),
)

pub returns : goal.returns
returns c =
    walks-spent _ _ _ _ _ c.loop.invariant.1
    (omega (arith, c.loop.invariant.0, c.loop-test.false, c.ticks-fuel.ensures.is)) (omega (arith, c.loop.invariant.0, c.ticks-fuel.ensures.few))
    c.no_site.result c.no_site.ensures c.faulted.result c.faulted.ensures
