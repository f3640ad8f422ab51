use Prim.Native.Nat.{◌≤◌}
use mathlib.Core.Path.{refl}
use native.Mathlib.Omega.{arith}
use lib.ListN.{length}
use Rattle.rules.specs.Token.{bytes_of}
use Rattle.put.specs.Puts.{last}
use Rattle.put.proofs.PutLaws.{coming-all, coming-on}
use Rattle.saying.specs.Sayings.{place_shown}
use Rattle.saying.proofs.put_place.Goals as goal

pub returns : goal.returns
unfolding bytes_of
returns c =
    let low : c.args.at ≤ last =
    omega arith in
    let long : length c.args.page.now ≤ last =
    omega arith in
    let a = c.args in
    let all = coming-all _ a.at (place_shown a.name.now a.line a.column) low long in
    let one = coming-on _ _ _ _ _ _ _ _ (bytes_of "answer 5: refused: ") _ refl all c.put_bytes-refused.ensures in
    let two = coming-on _ _ _ _ _ _ _ _ _ _ refl one c.put_name-named.ensures in
    let three = coming-on _ _ _ _ _ _ _ _ (bytes_of "line ") _ refl two c.put_bytes-of_line.ensures in
    let four = coming-on _ _ _ _ _ _ _ _ _ _ refl three c.put_number-line_put.ensures in
    let five = coming-on _ _ _ _ _ _ _ _ (bytes_of ", column ") _ refl four c.put_bytes-of_column.ensures in
    (coming-on _ _ _ _ _ _ _ _ _ _ refl five c.put_number-column_put.ensures).whole _ _ c.put_bytes.ensures
