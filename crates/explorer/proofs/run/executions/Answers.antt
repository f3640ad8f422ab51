use mathlib.Core.Path.{refl, ap}
use native.Mathlib.Omega.{arith}
use Rattle.meeting.specs.declared.Cursor.{Cursor}
use Rattle.iteration.proofs.ReadyLaws.{ready-shape}
use Rattle.settings.specs.Given.{settings_of}
use Rattle.explorer.proofs.ReadyLaws.{ready-executions, ready-operations}
use Rattle.explorer.proofs.RunLaws.{greater-within}
use Rattle.explorer.proofs.EndLaws.{running_none, running_more, ran_out, ran-cleared}
use Rattle.explorer.proofs.run.executions.Goals as goal

pub loop-answer-init : goal.loop-answer-init
loop-answer-init c =
    let args = c.args in (
      running_none args.table.now args.condition.now (settings_of args.settings) args.path.now args.trace.now c.nothing-progress.result c.requires.0 c.requires.1 c.requires.2
          c.nothing-progress.ensures (omega (arith, ready-executions c.requires.0)),
      refl,
      refl,
    )

pub execute-over-requires : goal.execute-over-requires
execute-over-requires c =
    let run = c.loop-answer.invariant.0 in
    let shape = ready-shape run.ready c.shape-shape.ensures in
    (shape.0, shape.1, shape.2, run.within, omega (arith, run.allowed, run.few, ready-executions run.ready))

pub further-progress-requires : goal.further-progress-requires
further-progress-requires c =
    let run = c.loop-answer.invariant.0 in
    omega (arith, run.allowed, ready-executions run.ready)

pub stop-requires : goal.stop-requires
stop-requires c =
    let noted = c.execute-over.ensures.gone.placed.noted in
    let within = greater-within c.further-progress.ensures.longer c.loop-answer.invariant.0.room noted (omega (arith, c.execute-over.auto)) in
    let good = c.well_formed in (
      omega (arith, noted, ap (λ (d : Cursor). d.entries) c.further-progress.ensures.same-cursor, c.execute-over.auto, c.loop-answer.invariant.1, c.loop-answer.invariant.2, good),
      omega (arith, within, c.execute-over.auto, c.loop-answer.invariant.1, c.loop-answer.invariant.2, good),
    )

pub shape_of-path-in-Some : goal.shape_of-path-in-Some
shape_of-path-in-Some c =
    omega (arith, c.execute-over.auto, c.loop-answer.invariant.1, c.loop-answer.invariant.2)

pub shape_of-trace-in-Some : goal.shape_of-trace-in-Some
shape_of-trace-in-Some c =
    omega (arith, c.stop.auto, c.execute-over.auto, c.loop-answer.invariant.1, c.loop-answer.invariant.2)

pub returns-in-Some : goal.returns-in-Some
returns-in-Some c =
    let run = c.loop-answer.invariant.0 in
    let args = c.args in
    ran-cleared args.table.now args.condition.now (settings_of args.settings)
    (ran_out args.table.now args.condition.now (settings_of args.settings) run c.shape-shape.ensures (c.terms_of-terms.ensures (ready-operations run.ready)) _ _ refl refl
    c.execute-over.result c.execute-over.ensures c.further-progress.result c.further-progress.ensures c.judge_end.result c.judge_end.ensures
    _ c.in-Some.is c.stop.result c.stop.ensures (omega (arith, c.execute-over.auto)) (omega (arith, c.execute-over.auto)))
    c.loop-answer.invariant.1 c.loop-answer.invariant.2

pub loop-answer-smaller : goal.loop-answer-smaller
loop-answer-smaller c =
    omega (arith, c.loop-answer.invariant.0.allowed, c.further-progress.ensures.more, c.stepped-progress.ensures.same-begun)

pub loop-answer-preserved : goal.loop-answer-preserved
loop-answer-preserved c =
    let run = c.loop-answer.invariant.0 in
    let args = c.args in (
      running_more args.table.now args.condition.now (settings_of args.settings) run c.shape-shape.ensures (c.terms_of-terms.ensures (ready-operations run.ready)) _ _ refl refl
          c.execute-over.result c.execute-over.ensures c.further-progress.result c.further-progress.ensures c.judge_end.result c.judge_end.ensures
          c.in_default.is c.stepped-progress.result c.stepped-progress.ensures (omega (arith, c.execute-over.auto)) (omega (arith, c.execute-over.auto)),
      omega (arith, c.stepped-progress.auto, c.execute-over.auto, c.loop-answer.invariant.1),
      omega (arith, c.execute-over.auto, c.loop-answer.invariant.2),
    )
