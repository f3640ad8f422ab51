use borrow.Enum.Refused.{opened}
use Rattle.walk.proofs.TakeLaws.{asks-nothing, take-concludes, take-stays, take_meets}
use native.Mathlib.Omega.{arith}
use Rattle.walk.proofs.take.Goals as goal
use Rattle.std.specs.Prelude.{Ok}
use Rattle.event.specs.declared.Moved.{Moved}
use Rattle.event.specs.Moves.{Happening}
use Rattle.meeting.specs.Entries.{Lands, concluded_at}
use mathlib.Core.Path.{ap, sym, subst, ◌∙◌}

pub returns-in_default : goal.returns-in_default
returns-in_default c =
    let args = c.args in
    take-concludes args.at.cursor args.at.here args.event args.at.limits.bound args.clocks.now args.marks.now args.values.now args.numbers.now args.path.now args.trace.now c.requires.1 c.conclude.result _
    (asks-nothing _ _ c.in-Ok.is (opened c.in_default.in_default-own.keys2))
    (subst (λ (e : Happening). Lands args.at.cursor c.conclude.result args.trace.now c.conclude.new.trace (concluded_at e args.at.here)) (sym c.in-Ok.is) c.conclude.ensures)

pub returns-in_default-outcome : goal.returns-in_default-outcome
returns-in_default-outcome c =
    let args = c.args in
    take-stays args.at.cursor args.at.here args.event args.at.limits.bound args.clocks.now args.marks.now args.values.now args.numbers.now args.path.now args.trace.now c.requires.1 _ _ (c.in-Ok.is ∙ ap (λ (e : Moved). Ok e) c.in-Asks.is) c.note_if-noted.result _ c.note_if-noted.ensures (opened c.in_default-outcome.in_default-outcome-own.keys2)

pub meet-requires : goal.meet-requires
meet-requires c = (
  c.requires.0,
  record {
    passed = omega (arith, c.requires.1.passed, c.note_if-noted.ensures.kept.same-pos, c.note_if-noted.ensures.kept.same_len, c.mark-cursor.ensures.marked.same-pos, c.mark-cursor.ensures.marked.same_len);
    within = omega (arith, c.requires.1.within, c.note_if-noted.ensures.kept.same_len, c.mark-cursor.ensures.marked.same_len, c.mark-cursor.auto);
    noted = omega (arith, c.note_if-noted.ensures.kept.noted, c.mark-cursor.ensures.marked.same_entries);
  },
  omega (arith, c.requires.2, c.note_if-noted.ensures.kept.same-opened, c.mark-cursor.ensures.marked.few),
)

pub shape_of-trace : goal.shape_of-trace
shape_of-trace c =
    omega (arith, c.meet.auto, c.note_if-noted.auto)

pub returns : goal.returns
returns c =
    let args = c.args in
    take_meets args.at.cursor args.at.here args.event args.at.limits.bound args.clocks.now args.marks.now args.values.now args.numbers.now args.path.now args.trace.now c.requires.1 _ _ (c.in-Ok.is ∙ ap (λ (e : Moved). Ok e) c.in-Asks.is) c.note_if-noted.result _ c.note_if-noted.ensures c.mark-cursor.result _ c.mark-cursor.ensures c.mark-cursor.auto.path c.in-Goes.is c.meet.result _ c.meet.ensures
