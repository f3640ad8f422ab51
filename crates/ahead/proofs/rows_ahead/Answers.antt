use Prim.Native.Nat.{◌+◌, ◌-◌}
use mathlib.Core.Bool.{true, false}
use mathlib.Core.Path.{◌≡◌}
use native.Mathlib.Omega.{arith}
use lib.ListN.{drop}
use Rattle.rules.specs.Token.{past_blanks}
use Rattle.token.proofs.PlaceLaws.{left_by}
use Rattle.ahead.proofs.AheadLaws.{says-thread, says-finally, rows_out, rows_end, rows-thread, rows-finally, rows_on}
use borrow.Author.Rules.{rules}
use Rattle.ahead.proofs.rows_ahead.Goals as goal

pub loop-i-init : goal.loop-i-init
loop-i-init c =
    let all : c.args.lines - 0 ≡ c.args.lines = omega arith in
    rw all (search rules, omega arith)

pub returns-then-text-here : goal.returns-then-text-here
returns-then-text-here c =
    let skipped : drop c.past_blanks-here.result c.args.text.now ≡ past_blanks (drop c.loop-i.from c.args.text.now) =
    left_by c.args.text.now c.loop-i.from c.past_blanks-here.result _ c.past_blanks-here.ensures in
    let a = c.args in
    record { is = omega (arith, rows_end a.text.now c.loop-i.from (c.args.lines - c.loop-i.i) c.past_blanks-here.result c.token_end-to.result skipped c.token_end-to.ensures (omega arith) c.if-text-here.true, c.loop-i.invariant.1); most = omega (arith, c.loop-i.invariant.0) }

pub returns-then-is_word : goal.returns-then-is_word
returns-then-is_word c =
    let skipped : drop c.past_blanks-here.result c.args.text.now ≡ past_blanks (drop c.loop-i.from c.args.text.now) =
    left_by c.args.text.now c.loop-i.from c.past_blanks-here.result _ c.past_blanks-here.ensures in
    let a = c.args in
    record { is = omega (arith, rows-thread a.text.now c.loop-i.from (c.args.lines - c.loop-i.i) c.past_blanks-here.result c.token_end-to.result skipped c.token_end-to.ensures (omega arith) c.if-text-here.false (says-thread a.text.now c.past_blanks-here.result c.token_end-to.result _ c.is_word.ensures true c.if-is_word.true), c.loop-i.invariant.1); most = omega (arith, c.loop-i.invariant.0) }

pub returns-then-is_word-2 : goal.returns-then-is_word-2
returns-then-is_word-2 c =
    let skipped : drop c.past_blanks-here.result c.args.text.now ≡ past_blanks (drop c.loop-i.from c.args.text.now) =
    left_by c.args.text.now c.loop-i.from c.past_blanks-here.result _ c.past_blanks-here.ensures in
    let a = c.args in
    record { is = omega (arith, rows-finally a.text.now c.loop-i.from (c.args.lines - c.loop-i.i) c.past_blanks-here.result c.token_end-to.result skipped c.token_end-to.ensures (omega arith) c.if-text-here.false (says-finally a.text.now c.past_blanks-here.result c.token_end-to.result _ c.is_word-in-loop-i.ensures true c.if-is_word-2.true), c.loop-i.invariant.1); most = omega (arith, c.loop-i.invariant.0) }

pub overflow_add-rows : goal.overflow_add-rows
overflow_add-rows c =
    omega (arith, c.loop-i.invariant.0, c.row_here-rows.ensures.most)

pub loop-i-preserved : goal.loop-i-preserved
loop-i-preserved c =
    let skipped : drop c.past_blanks-here.result c.args.text.now ≡ past_blanks (drop c.loop-i.from c.args.text.now) =
    left_by c.args.text.now c.loop-i.from c.past_blanks-here.result _ c.past_blanks-here.ensures in
    let a = c.args in
    let on = rows_on a.text.now c.loop-i.from (c.args.lines - c.loop-i.i) c.past_blanks-here.result c.token_end-to.result skipped c.token_end-to.ensures (omega arith) c.if-text-here.false c.next_line-from.result (left_by a.text.now c.past_blanks-here.result c.next_line-from.result _ c.next_line-from.ensures) (says-thread a.text.now c.past_blanks-here.result c.token_end-to.result _ c.is_word.ensures false c.if-is_word.false) (says-finally a.text.now c.past_blanks-here.result c.token_end-to.result _ c.is_word-in-loop-i.ensures false c.if-is_word-2.false) in
    let one-less : c.args.lines - (c.loop-i.i + 1) ≡ c.args.lines - c.loop-i.i - 1 = omega arith in
    rw one-less (omega (arith, c.row_here-rows.ensures.most, c.loop-i.invariant.0, c.loop-i-test.true), omega (arith, on, c.row_here-rows.ensures.is, c.loop-i.invariant.1))

pub returns : goal.returns
returns c =
    let a = c.args in
    record { is = omega (arith, rows_out a.text.now c.loop-i.from (c.args.lines - c.loop-i.i) (omega arith), c.loop-i.invariant.1); most = omega (arith, c.loop-i.invariant.0) }
