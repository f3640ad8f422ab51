use Prim.Native.Nat.{◌≤◌}
use mathlib.Core.Path.{refl, sym, ◌∙◌}
use native.Mathlib.Omega.{arith}
use borrow.Author.Tests.{not-true, not-false}
use lib.ListN.{length, drop}
use Rattle.rules.specs.Token.{bytes_of, token, past_blanks}
use Rattle.token.specs.Places.{part}
use Rattle.put.specs.Puts.{last}
use Rattle.put.proofs.PutLaws.{puts-are, coming-all, coming-on}
use Rattle.saying.specs.Sayings.{reason, what_shown}
use Rattle.saying.proofs.SayLaws.{what-missing, what-unclear, what-clear}
use Rattle.saying.proofs.put_what.Goals as goal

pub returns-then-ends_line : goal.returns-then-ends_line
unfolding bytes_of
returns-then-ends_line c =
    let a = c.args in
    puts-are _ _ _ _ _ _ (what-missing a.text.now a.spot.row a.spot.begin a.spot.before a.spot.place (sym c.ends_line.ensures ∙ c.if-ends_line.true)) c.put_bytes.ensures

pub returns-then-not-is_clear : goal.returns-then-not-is_clear
unfolding bytes_of
returns-then-not-is_clear c =
    let a = c.args in
    let there = sym c.ends_line.ensures ∙ c.if-ends_line.false in
    puts-are _ _ _ _ _ _ (what-unclear a.text.now a.spot.row a.spot.begin a.spot.before a.spot.place there _ c.token_end-end.ensures _ c.part-word.ensures (sym c.is_clear.ensures ∙ not-true _ c.if-not-is_clear.true-raw)) c.put_bytes-then-not-is_clear.ensures

pub returns : goal.returns
unfolding bytes_of
returns c =
    let low : c.args.at ≤ last =
    omega arith in
    let long : length c.args.page.now ≤ last =
    omega arith in
    let a = c.args in
    let why = reason a.spot.row (token (past_blanks (drop a.spot.begin a.text.now))) (token (drop a.spot.before a.text.now)) (part a.spot.place c.token_end-end.result a.text.now) in
    let there = sym c.ends_line.ensures ∙ c.if-ends_line.false in
    let whole = what-clear a.text.now a.spot.row a.spot.begin a.spot.before a.spot.place there _ c.token_end-end.ensures _ c.part-word.ensures (sym c.is_clear.ensures ∙ not-false _ c.if-not-is_clear.false-raw) in
    let all = coming-all _ a.at (what_shown a.text.now a.spot.row a.spot.begin a.spot.before a.spot.place) low long in
    let one = coming-on _ _ _ _ _ _ _ _ (bytes_of "`") _ whole all c.put_byte-quote.ensures in
    let two = coming-on _ _ _ _ _ _ _ _ _ _ refl one c.put_bytes-named.ensures in
    let three = coming-on _ _ _ _ _ _ _ _ (bytes_of "` cannot stand here") _ refl two c.put_bytes-said.ensures in
    (coming-on _ _ _ _ _ _ _ _ (bytes_of why) _ refl three c.put_reason-told.ensures).whole _ _ c.put_byte.ensures
