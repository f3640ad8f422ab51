use Prim.Native.Nat.{◌+◌, ◌-◌}
use mathlib.Core.Path.{◌≡◌, refl, ap, sym, ◌∙◌, subst}
use native.Mathlib.Omega.{arith}
use lib.ListN.{length}
use Rattle.std.proofs.Common.{Ok}
use Rattle.rules.specs.Condition.{condition_bytes}
use Rattle.filling.specs.Tables.{Blank}
use Rattle.filling.proofs.LineLaws.{passed_up}
use Rattle.reader.proofs.WholeLaws.{going_start, going-out, step-goes, step-refused, step-ended, step-made, answered-by}
use borrow.Author.Rules.{rules}
use Rattle.reader.proofs.lines_from.Goals as goal

pub loop-i-init : goal.loop-i-init
loop-i-init c =
    let lines = length c.args.text.now + 1 in
    let all : lines - 0 ≡ lines = omega arith in
    rw all (refl, refl, going_start c.args.text.now c.args.table.now c.threads_ahead-all.result c.requires.0 c.threads_ahead-all.ensures.is)

pub line_of-requires : goal.line_of-requires
line_of-requires c = let g = c.loop-i.invariant.2 in record { made = g.made; held = g.held }

pub returns-in_err-line : goal.returns-in_err-line
returns-in_err-line c =
    let refused = passed_up c.from_residual.result _ c.from_residual.ensures.1 in
    record {
      is =
          let a = c.args in
          let g = c.loop-i.invariant.2 in
          rw refused (step-refused a.text.now _ _ _ _ _ _ _ _ g _ c.line_of.result c.line_of.ensures (omega arith) _ c.in_err-line.was);
    }

pub returns-in-Ended : goal.returns-in-Ended
returns-in-Ended c = record {
  is =
      let a = c.args in
      let g = c.loop-i.invariant.2 in
      step-ended a.text.now _ _ _ _ _ _ _ _ g _ c.line_of.result c.line_of.ensures (omega arith) _ condition_bytes (subst (Blank condition_bytes) (sym c.loop-i.invariant.1) c.requires.1) (c.in_ok-line.was ∙ ap Ok c.in-Ended.is);
}

pub concluded-requires : goal.concluded-requires
concluded-requires c =
    let a = c.args in
    let g = c.loop-i.invariant.2 in
    let x = step-made a.text.now _ _ _ _ _ _ _ _ g _ c.line_of.result c.line_of.ensures (omega arith) _ (c.in_ok-line.was ∙ ap Ok c.in-Concludes.is) in
    (record { made = x.0; held = x.1.1 }, subst (Blank condition_bytes) (sym c.loop-i.invariant.1) c.requires.1)

pub returns-in-Concludes : goal.returns-in-Concludes
returns-in-Concludes c =
    let a = c.args in
    let g = c.loop-i.invariant.2 in
    let x = step-made a.text.now _ _ _ _ _ _ _ _ g _ c.line_of.result c.line_of.ensures (omega arith) _ (c.in_ok-line.was ∙ ap Ok c.in-Concludes.is) in
    answered-by a.text.now _ _ _ c.concluded.result _ c.concluded.ensures x.0 x.1.1 _ (sym x.1.0)

pub loop-i-preserved : goal.loop-i-preserved
loop-i-preserved c =
    let a = c.args in
    let g = c.loop-i.invariant.2 in
    let lines = length a.text.now + 1 in
    let one-less : lines - (c.loop-i.i + 1) ≡ lines - c.loop-i.i - 1 = omega arith in
    rw one-less (search rules, c.loop-i.invariant.1, step-goes a.text.now _ _ _ _ _ _ _ _ g _ c.line_of.result c.line_of.ensures (omega arith) _ (c.in_ok-line.was ∙ ap Ok c.in-GoesOn.is))

pub returns : goal.returns
returns c = record {
  is =
      let a = c.args in
      going-out a.text.now _ _ _ _ _ _ _ _ c.loop-i.invariant.2 (omega arith);
}
