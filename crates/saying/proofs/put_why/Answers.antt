use Prim.Native.Nat.{◌≤◌}
use mathlib.Core.Path.{refl, ap, sym, ◌∙◌}
use mathlib.Core.Bool.{true, false}
use native.Mathlib.Omega.{arith}
use Rattle.rules.specs.Token.{bytes_of}
use Rattle.token.specs.Finds.{found_of}
use Rattle.put.specs.Puts.{last}
use Rattle.put.proofs.PutLaws.{puts_none, puts-are}
use Rattle.saying.proofs.SayLaws.{said, cell-said, why-by}
use Rattle.saying.proofs.put_why.Goals as goal

pub returns-in_default : goal.returns-in_default
unfolding bytes_of
returns-in_default c = rw (← c.number.ensures, c.in_default.is) (puts_none _ _ (omega arith))

pub returns-then-is_word : goal.returns-then-is_word
unfolding bytes_of
returns-then-is_word c =
    let a = c.args in
    let number = sym c.number.ensures ∙ ap found_of c.in-Some.is in
    let to_row = said a.text.now a.spot.before _ c.token_end-behind.ensures "jump" _ true c.is_word.ensures c.if-is_word.true in
    puts-are _ _ _ _ _ _ (ap bytes_of (why-by a.spot.row _ _ _ _ _ _ number to_row refl refl)) c.put_why_no_row.ensures

pub returns-then-is_word-2 : goal.returns-then-is_word-2
unfolding bytes_of
returns-then-is_word-2 c =
    let a = c.args in
    let number = sym c.number.ensures ∙ ap found_of c.in-Some.is in
    let to_row = said a.text.now a.spot.before _ c.token_end-behind.ensures "jump" _ false c.is_word.ensures c.if-is_word.false in
    let of-thread = said a.text.now a.spot.before _ c.token_end-behind.ensures "join" _ true c.is_word-2.ensures c.if-is_word-2.true in
    puts-are _ _ _ _ _ _ (ap bytes_of (why-by a.spot.row _ _ _ _ _ _ number to_row of-thread refl)) c.put_bytes.ensures

pub returns-then-names_cell : goal.returns-then-names_cell
unfolding bytes_of
returns-then-names_cell c =
    let a = c.args in
    let number = sym c.number.ensures ∙ ap found_of c.in-Some.is in
    let to_row = said a.text.now a.spot.before _ c.token_end-behind.ensures "jump" _ false c.is_word.ensures c.if-is_word.false in
    let of-thread = said a.text.now a.spot.before _ c.token_end-behind.ensures "join" _ false c.is_word-2.ensures c.if-is_word-2.false in
    let in_Cell = cell-said a.text.now a.spot.before _ c.token_end-behind.ensures _ true c.names_cell.ensures c.if-names_cell.true in
    puts-are _ _ _ _ _ _ (ap bytes_of (why-by a.spot.row _ _ _ _ _ _ number to_row of-thread in_Cell)) c.put_bytes-then-names_cell.ensures

pub returns : goal.returns
unfolding bytes_of
returns c =
    let low : c.args.at ≤ last =
    omega arith in
    let a = c.args in
    let number = sym c.number.ensures ∙ ap found_of c.in-Some.is in
    let to_row = said a.text.now a.spot.before _ c.token_end-behind.ensures "jump" _ false c.is_word.ensures c.if-is_word.false in
    let of-thread = said a.text.now a.spot.before _ c.token_end-behind.ensures "join" _ false c.is_word-2.ensures c.if-is_word-2.false in
    let in_Cell = cell-said a.text.now a.spot.before _ c.token_end-behind.ensures _ false c.names_cell.ensures c.if-names_cell.false in
    puts-are _ _ _ _ _ _ (ap bytes_of (why-by a.spot.row _ _ _ _ _ _ number to_row of-thread in_Cell)) (puts_none _ _ low)
