use Prim.Native.Nat.{◌+◌, ◌-◌}
use mathlib.Core.Path.{◌≡◌, ◌∙◌}
use native.Mathlib.Omega.{arith}
use lib.ListN.{length, drop}
use Rattle.rules.specs.Token.{past_blanks}
use Rattle.token.proofs.PlaceLaws.{left_by}
use Rattle.token.proofs.ListLaws.{word_out, word_end, word-here, word_on}
use Rattle.token.proofs.word_at.Goals as goal

pub returns-then-words-at : goal.returns-then-words-at
returns-then-words-at c =
    let words = c.args.words.now in
    let left = length words - c.loop-i.i in
    let skipped : drop c.past_blanks-at.result words ≡ past_blanks (drop c.loop-i.from words) =
    left_by words c.loop-i.from c.past_blanks-at.result _ c.past_blanks-at.ensures in
    word_end words c.loop-i.from left c.past_blanks-at.result skipped (omega arith) (c.args.place - c.loop-i.i) c.if-words-at.true
    ∙ c.loop-i.invariant.1

pub returns-then-i-place : goal.returns-then-i-place
returns-then-i-place c =
    let words = c.args.words.now in
    let left = length words - c.loop-i.i in
    let skipped : drop c.past_blanks-at.result words ≡ past_blanks (drop c.loop-i.from words) =
    left_by words c.loop-i.from c.past_blanks-at.result _ c.past_blanks-at.ensures in
    c.part.ensures
    ∙ word-here words c.loop-i.from left c.past_blanks-at.result skipped (omega arith) c.token_end-from.result c.if-words-at.false c.token_end-from.ensures (c.args.place - c.loop-i.i) (omega arith)
    ∙ c.loop-i.invariant.1

pub loop-i-preserved : goal.loop-i-preserved
loop-i-preserved c =
    let words = c.args.words.now in
    let left = length words - c.loop-i.i in
    let skipped : drop c.past_blanks-at.result words ≡ past_blanks (drop c.loop-i.from words) =
    left_by words c.loop-i.from c.past_blanks-at.result _ c.past_blanks-at.ensures in
    let one-less : length words - (c.loop-i.i + 1) ≡ left - 1 = omega arith in
    let before : c.args.place - (c.loop-i.i + 1) ≡ c.args.place - c.loop-i.i - 1 = omega arith in (
      omega arith,
      rw (one-less, before)
          (word_on words c.loop-i.from left c.past_blanks-at.result skipped (omega arith) c.token_end-from.result c.if-words-at.false c.token_end-from.ensures (c.args.place - c.loop-i.i) (omega arith)
          ∙ c.loop-i.invariant.1),
    )

pub returns : goal.returns
returns c =
    word_out c.args.words.now c.loop-i.from (length c.args.words.now - c.loop-i.i) (c.args.place - c.loop-i.i) (omega arith)
    ∙ c.loop-i.invariant.1
