use Prim.Native.Nat.{ℕ, ◌+◌, ◌-◌}
use mathlib.Core.List.{List}
use mathlib.Core.Path.{◌≡◌, ap, sym, ◌∙◌}
use native.Mathlib.Omega.{arith}
use lib.ListN.{drop}
use Rattle.rules.specs.Token.{is_blank, past_blanks}
use Rattle.rules.specs.Form.{value_of, with_field, most_words}
use Rattle.token.specs.Places.{part, Between}
use Rattle.token.specs.Finds.{found_of}
use Rattle.token.proofs.PlaceLaws.{left_by, between-on, between_run, between-token}
use Rattle.decode.specs.Ops.{room_meant}
use Rattle.form.proofs.FollowLaws.{ended, follow-out, follow-ended, follow-stuck, follow-on}
use Rattle.form.proofs.RowLaws.{follows_stuck, follows_on}
use Rattle.form.proofs.followed.Goals as goal

pub returns-then-words-start : goal.returns-then-words-start
returns-then-words-start c =
    let a = c.args in
    let words = a.words.now in
    let text = a.text.now in
    let left-words : drop c.past_blanks-start.result words ≡ past_blanks (drop c.loop-i.from words) =
    left_by words c.loop-i.from c.past_blanks-start.result _ c.past_blanks-start.ensures in
    let left-text : drop c.past_blanks-here.result text ≡ past_blanks (drop c.loop-i.to text) =
    left_by text c.loop-i.to c.past_blanks-here.result _ c.past_blanks-here.ensures in
    let so-far : Between text a.at c.past_blanks-here.result =
    between-on _ _ c.loop-i.to _ c.loop-i.invariant.1 (between_run _ _ _ is_blank c.past_blanks-here.ensures) in
    follows_on text c.ended.result a.at c.past_blanks-here.result {some = ended c.loop-i.fields (drop c.past_blanks-here.result text)} c.ended.ensures
    (follow-ended (room_meant a.room) c.loop-i.fields words text c.loop-i.from c.loop-i.to (most_words - c.loop-i.i) c.past_blanks-start.result c.past_blanks-here.result left-words left-text (omega arith) c.if-words-start.true
    ∙ c.loop-i.invariant.0)
    so-far

pub returns-in_default : goal.returns-in_default
returns-in_default c =
    let a = c.args in
    let words = a.words.now in
    let text = a.text.now in
    let left-words : drop c.past_blanks-start.result words ≡ past_blanks (drop c.loop-i.from words) =
    left_by words c.loop-i.from c.past_blanks-start.result _ c.past_blanks-start.ensures in
    let left-text : drop c.past_blanks-here.result text ≡ past_blanks (drop c.loop-i.to text) =
    left_by text c.loop-i.to c.past_blanks-here.result _ c.past_blanks-here.ensures in
    let so-far : Between text a.at c.past_blanks-here.result =
    between-on _ _ c.loop-i.to _ c.loop-i.invariant.1 (between_run _ _ _ is_blank c.past_blanks-here.ensures) in
    let valued : value_of (room_meant a.room) (part c.past_blanks-start.result c.token_end-from.result words) (part c.past_blanks-here.result c.token_end-to.result text)
    ≡ found_of c.value_of.result =
    sym
    (c.value_of.ensures
    ∙ ap (λ (piece : List ℕ). value_of (room_meant a.room) piece (part c.past_blanks-here.result c.token_end-to.result text)) c.part-piece.ensures) in
    follows_stuck text a.at c.past_blanks-here.result
    (follow-stuck (room_meant a.room) c.loop-i.fields words text c.loop-i.from c.loop-i.to (most_words - c.loop-i.i) c.past_blanks-start.result c.past_blanks-here.result left-words left-text (omega arith)
    c.if-words-start.false c.token_end-from.result c.token_end-to.result c.token_end-from.ensures c.token_end-to.ensures
    (valued ∙ ap found_of c.in_default.is)
    ∙ c.loop-i.invariant.0)
    so-far

pub loop-i-preserved : goal.loop-i-preserved
loop-i-preserved c =
    let a = c.args in
    let words = a.words.now in
    let text = a.text.now in
    let left-words : drop c.past_blanks-start.result words ≡ past_blanks (drop c.loop-i.from words) =
    left_by words c.loop-i.from c.past_blanks-start.result _ c.past_blanks-start.ensures in
    let left-text : drop c.past_blanks-here.result text ≡ past_blanks (drop c.loop-i.to text) =
    left_by text c.loop-i.to c.past_blanks-here.result _ c.past_blanks-here.ensures in
    let so-far : Between text a.at c.past_blanks-here.result =
    between-on _ _ c.loop-i.to _ c.loop-i.invariant.1 (between_run _ _ _ is_blank c.past_blanks-here.ensures) in
    let valued : value_of (room_meant a.room) (part c.past_blanks-start.result c.token_end-from.result words) (part c.past_blanks-here.result c.token_end-to.result text)
    ≡ found_of c.value_of.result =
    sym
    (c.value_of.ensures
    ∙ ap (λ (piece : List ℕ). value_of (room_meant a.room) piece (part c.past_blanks-here.result c.token_end-to.result text)) c.part-piece.ensures) in
    let one-less : most_words - (c.loop-i.i + 1) ≡ most_words - c.loop-i.i - 1 = omega arith in (
      rw one-less
          (follow-on (room_meant a.room) c.loop-i.fields words text c.loop-i.from c.loop-i.to (most_words - c.loop-i.i) c.past_blanks-start.result c.past_blanks-here.result left-words left-text (omega arith)
          c.if-words-start.false c.token_end-from.result c.token_end-to.result c.token_end-from.ensures c.token_end-to.ensures
          c.in-Some.value c.with_field-more.result (valued ∙ ap found_of c.in-Some.is) (c.with_field-more.ensures ∙ ap (λ (piece : List ℕ). with_field c.loop-i.fields piece c.in-Some.value) c.part-piece.ensures)
          ∙ c.loop-i.invariant.0),
      between-on _ _ c.past_blanks-here.result _ so-far (between-token _ _ _ c.token_end-to.ensures),
    )

pub returns : goal.returns
returns c =
    let a = c.args in
    let text = a.text.now in
    follows_stuck text a.at c.past_blanks.result
    (follow-out (room_meant a.room) c.loop-i.fields (drop c.loop-i.from a.words.now) text c.loop-i.to (most_words - c.loop-i.i) c.past_blanks.result (left_by text c.loop-i.to c.past_blanks.result _ c.past_blanks.ensures) (omega arith)
    ∙ c.loop-i.invariant.0)
    (between-on _ _ c.loop-i.to _ c.loop-i.invariant.1 (between_run _ _ _ is_blank c.past_blanks.ensures))
