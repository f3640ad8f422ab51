use mathlib.Core.List.{[]}
use borrow.Enum.Refused.{opened}
use native.Mathlib.Omega.{arith}
use mathlib.Core.Path.{ap, sym, ◌∙◌}
use mathlib.Core.Logic.{inl, inr}
use Rattle.rules.specs.Event.{offers}
use Rattle.rules.specs.State.{Numbers}
use Rattle.layout.specs.Tables.{state}
use Rattle.decode.specs.Ops.{op_of}
use Rattle.event.specs.declared.Moved.{Moved}
use Rattle.std.specs.Prelude.{Ok}
use Rattle.std.proofs.lemmas.Result.{err_from_is_err_and}
use Rattle.execution.proofs.TickLaws.{row_within, begun-stops, begun-other, begun-acts, next-ended, next-refused, next-begins, next-acts}
use Rattle.execution.proofs.next.Goals as goal
use Rattle.execution.proofs.next.Goals.{else-to_begin, else-to_begin-2, then-to_begin+else-shape-thread, then-to_begin-2+in_ok-event+in-Moves}

pub returns-then-shape-thread : goal.returns-then-shape-thread
returns-then-shape-thread c =
    let args = c.args in
    λ p limited celled.
    next-ended p (state args.clocks.now args.marks.now args.values.now args.numbers.now) args.here.site.thread args.here.site.row _ _ (c.is_to_begin-to_begin.ensures args.clocks.now args.marks.now args.values.now) args.here.row c.if-to_begin.true c.if-shape-thread.true _ (c.end.ensures args.clocks.now args.marks.now args.values.now)

pub returns-in_default : goal.returns-in_default
returns-in_default c =
    let args = c.args in
    λ p limited celled.
    next-refused p (state args.clocks.now args.marks.now args.values.now args.numbers.now) args.here.site.thread args.here.site.row _ _ (c.is_to_begin-to_begin.ensures args.clocks.now args.marks.now args.values.now) args.here.row (elim c.if-to_begin.branch [
      | then-to_begin+else-shape-thread w ↦ inl w.if-shape-thread.false
      | else-to_begin w ↦ inr w.if-to_begin.false
    ]) c.in_default.is

pub begin-requires : goal.begin-requires
begin-requires c =
    (c.requires.0.who, row_within _ _ c.in-Some.is c.requires.0.names)

pub returns-in_err-event : goal.returns-in_err-event
returns-in_err-event c =
    let args = c.args in
    let out = err_from_is_err_and c.from_residual.result c.from_residual.ensures.1 in
    λ p limited celled.
    next-begins p (state args.clocks.now args.marks.now args.values.now args.numbers.now) args.here.site.thread args.here.site.row _ _ (c.is_to_begin-to_begin.ensures args.clocks.now args.marks.now args.values.now) args.here.row (elim c.if-to_begin.branch [
      | then-to_begin+else-shape-thread w ↦ inl w.if-shape-thread.false
      | else-to_begin w ↦ inr w.if-to_begin.false
    ]) _ c.in-Some.is c.if-to_begin-2.true _
    (begun-stops p (state args.clocks.now args.marks.now args.values.now args.numbers.now) _ args.here.site.thread args.here.site.row _ _ _ _ c.begin.result limited (c.begin.ensures args.clocks.now args.marks.now args.values.now args.here.site.row _ _)
    _ _ c.from_residual.result c.in_err-event.was out.1 out.2)

pub returns-in_default-event : goal.returns-in_default-event
returns-in_default-event c =
    let args = c.args in
    λ p limited celled.
    next-begins p (state args.clocks.now args.marks.now args.values.now args.numbers.now) args.here.site.thread args.here.site.row _ _ (c.is_to_begin-to_begin.ensures args.clocks.now args.marks.now args.values.now) args.here.row (elim c.if-to_begin.branch [
      | then-to_begin+else-shape-thread w ↦ inl w.if-shape-thread.false
      | else-to_begin w ↦ inr w.if-to_begin.false
    ]) _ c.in-Some.is c.if-to_begin-2.true _
    (begun-other p (state args.clocks.now args.marks.now args.values.now args.numbers.now) _ args.here.site.thread args.here.site.row _ _ _ _ c.begin.result limited (c.begin.ensures args.clocks.now args.marks.now args.values.now args.here.site.row _ _)
    _ c.in_ok-event.was (opened c.in_default-event.in_default-event-own.keys2))

pub act-requires : goal.act-requires
act-requires c =
    (c.requires.0.who, omega (arith, c.wide16-cells.ensures.same, c.requires.1), row_within _ _ c.in-Some.is c.requires.0.names)

pub returns : goal.returns
returns c =
    let args = c.args in
    λ p limited celled.
    next-acts p (state args.clocks.now args.marks.now args.values.now args.numbers.now) args.here.site.thread args.here.site.row _ _ (c.is_to_begin-to_begin.ensures args.clocks.now args.marks.now args.values.now) args.here.row (elim c.if-to_begin.branch [
      | then-to_begin+else-shape-thread w ↦ inl w.if-shape-thread.false
      | else-to_begin w ↦ inr w.if-to_begin.false
    ]) _ c.in-Some.is
    (state args.clocks.now args.marks.now args.values.now c.if-to_begin-2.numbers)
    (elim c.if-to_begin-2.branch [
      | then-to_begin-2+in_ok-event+in-Moves w ↦ inl (w.if-to_begin-2.true, begun-acts p (state args.clocks.now args.marks.now args.values.now args.numbers.now) _ args.here.site.thread args.here.site.row 0 args.limit (op_of c.in-Some.op) (offers []) w.begin.result limited (w.begin.ensures args.clocks.now args.marks.now args.values.now args.here.site.row 0 (offers [])) (w.in_ok-event.was ∙ ap (λ (e : Moved). Ok e) w.in-Moves.is) _ (ap (λ (n : Numbers). state args.clocks.now args.marks.now args.values.now n) w.numbers-is))
      | else-to_begin-2 w ↦ inr (w.if-to_begin-2.false, ap (λ (n : Numbers). state args.clocks.now args.marks.now args.values.now n) w.numbers-is)
    ])
    c.act.result _
    (c.act.ensures p (celled ∙ sym c.wide16-cells.ensures.same))
