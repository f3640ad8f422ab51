use Prim.Native.Nat.{◌-◌, ◌+◌}
use mathlib.Core.Path.{◌≡◌, sym, ◌∙◌, ap}
use native.Mathlib.Omega.{arith}
use lib.ListN.{drop}
use Rattle.rules.specs.Token.{is_blank, past_blanks, content}
use Rattle.token.specs.Places.{Between}
use Rattle.token.proofs.PlaceLaws.{left_by, between-on, between_run, between-line, content-out, content-end, content-here, content-on}
use Rattle.token.proofs.content.Goals as goal
use Rattle.token.proofs.content.Goals.{then-text-to-via-then-text-to, then-text-to-via-else-text-to+then-not-ends_line}

pub returns-then-text-to : goal.returns-then-text-to
returns-then-text-to c =
    let text = c.args.text.now in
    let left = c.args.lines - c.loop-i.i in
    let skipped : drop c.past_blanks-to.result text ≡ past_blanks (drop c.loop-i.from text) =
    left_by text c.loop-i.from c.past_blanks-to.result _ c.past_blanks-to.ensures in
    record {
      left = elim c.then-text-to.branch [
        | then-text-to-via-then-text-to w ↦ content-end text c.loop-i.from left c.past_blanks-to.result skipped (omega arith) w.if-text-to.true
        | then-text-to-via-else-text-to+then-not-ends_line w ↦
            content-here text c.loop-i.from left c.past_blanks-to.result skipped (omega arith) (sym w.ends_line.ensures ∙ w.if-not-ends_line.true)
      ] ∙ c.loop-i.invariant.0;
      between = between-on _ _ c.loop-i.from _ c.loop-i.invariant.1 (between_run _ _ _ is_blank c.past_blanks-to.ensures);
    }

pub loop-i-preserved : goal.loop-i-preserved
loop-i-preserved c =
    let text = c.args.text.now in
    let left = c.args.lines - c.loop-i.i in
    let skipped : drop c.past_blanks-to.result text ≡ past_blanks (drop c.loop-i.from text) =
    left_by text c.loop-i.from c.past_blanks-to.result _ c.past_blanks-to.ensures in
    let so-far : Between text c.args.at c.past_blanks-to.result =
    between-on _ _ c.loop-i.from _ c.loop-i.invariant.1 (between_run _ _ _ is_blank c.past_blanks-to.ensures) in
    let one-less : c.args.lines - (c.loop-i.i + 1) ≡ left - 1 = omega arith in (
      rw one-less
          (ap (content (left - 1)) (left_by text c.past_blanks-to.result c.next_line-from.result _ c.next_line-from.ensures)
          ∙ content-on text c.loop-i.from left c.past_blanks-to.result skipped (omega arith) c.if-text-to.false (sym c.ends_line.ensures ∙ c.if-not-ends_line.false)
          ∙ c.loop-i.invariant.0),
      between-on _ _ c.past_blanks-to.result _ so-far (between-line _ _ _ c.next_line-from.ensures),
    )

pub returns : goal.returns
returns c =
    let text = c.args.text.now in
    record {
      left =
          content-out text c.loop-i.from (c.args.lines - c.loop-i.i) c.past_blanks.result (left_by text c.loop-i.from c.past_blanks.result _ c.past_blanks.ensures) (omega arith)
          ∙ c.loop-i.invariant.0;
      between = between-on _ _ c.loop-i.from _ c.loop-i.invariant.1 (between_run _ _ _ is_blank c.past_blanks.ensures);
    }
