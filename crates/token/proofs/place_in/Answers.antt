use Prim.Native.Nat.{◌+◌, ◌-◌}
use mathlib.Core.Path.{◌≡◌, sym, ◌∙◌, ap}
use native.Mathlib.Omega.{arith}
use lib.ListN.{length, drop}
use Rattle.rules.specs.Vector.{equal}
use Rattle.rules.specs.Token.{past_blanks}
use Rattle.token.specs.Places.{part}
use Rattle.token.proofs.PlaceLaws.{left_by, same-words}
use Rattle.token.proofs.ListLaws.{place_out, place_end, place_here, place-on}
use Rattle.token.proofs.place_in.Goals as goal

pub returns-then-words-at : goal.returns-then-words-at
returns-then-words-at c =
    let a = c.args in
    let left = a.first + length a.words.now - c.loop-place.place in
    let skipped : drop c.past_blanks-at.result a.words.now ≡ past_blanks (drop c.loop-place.from a.words.now) =
    left_by a.words.now c.loop-place.from c.past_blanks-at.result _ c.past_blanks-at.ensures in
    place_end a.word.now a.words.now c.loop-place.place c.loop-place.from left c.past_blanks-at.result skipped (omega arith) c.if-words-at.true
    ∙ c.loop-place.invariant

pub returns-then-eq : goal.returns-then-eq
returns-then-eq c =
    let a = c.args in
    let left = a.first + length a.words.now - c.loop-place.place in
    let skipped : drop c.past_blanks-at.result a.words.now ≡ past_blanks (drop c.loop-place.from a.words.now) =
    left_by a.words.now c.loop-place.from c.past_blanks-at.result _ c.past_blanks-at.ensures in
    let same-as : c.eq.result ≡ equal a.word.now (part c.past_blanks-at.result c.token_end-from.result a.words.now) =
    c.eq.ensures ∙ same-words _ _ ∙ ap (equal _) c.part.ensures in
    place_here a.word.now a.words.now c.loop-place.place c.loop-place.from left c.past_blanks-at.result skipped (omega arith) c.token_end-from.result c.if-words-at.false c.token_end-from.ensures (sym same-as ∙ c.if-eq.true)
    ∙ c.loop-place.invariant

pub loop-place-preserved : goal.loop-place-preserved
loop-place-preserved c =
    let a = c.args in
    let left = a.first + length a.words.now - c.loop-place.place in
    let skipped : drop c.past_blanks-at.result a.words.now ≡ past_blanks (drop c.loop-place.from a.words.now) =
    left_by a.words.now c.loop-place.from c.past_blanks-at.result _ c.past_blanks-at.ensures in
    let same-as : c.eq.result ≡ equal a.word.now (part c.past_blanks-at.result c.token_end-from.result a.words.now) =
    c.eq.ensures ∙ same-words _ _ ∙ ap (equal _) c.part.ensures in
    let one-less : a.first + length a.words.now - (c.loop-place.place + 1) ≡ left - 1 = omega arith in
    rw one-less
    (place-on a.word.now a.words.now c.loop-place.place c.loop-place.from left c.past_blanks-at.result skipped (omega arith) c.token_end-from.result c.if-words-at.false c.token_end-from.ensures (sym same-as ∙ c.if-eq.false)
    ∙ c.loop-place.invariant)

pub returns : goal.returns
returns c =
    let a = c.args in
    place_out a.word.now a.words.now c.loop-place.place c.loop-place.from (a.first + length a.words.now - c.loop-place.place) (omega arith)
    ∙ c.loop-place.invariant
