use Prim.Native.Nat.{◌≤◌}
use mathlib.Core.Path.{refl}
use native.Mathlib.Omega.{arith}
use lib.ListN.{length}
use Rattle.put.specs.Puts.{last}
use Rattle.put.proofs.PutLaws.{coming-all, coming-on}
use Rattle.excerpt.specs.Excerpts.{line_shown}
use Rattle.excerpt.proofs.SeenLaws.{line-whole}
use Rattle.excerpt.proofs.put_line.Goals as goal

pub returns : goal.returns
returns c =
    let low : c.args.at ≤ last =
    omega arith in
    let long : length c.args.page.now ≤ last =
    omega arith in
    let a = c.args in
    let whole = line-whole a.text.now a.shown.begin a.shown.place _ c.first_shown-from.ensures a.shown.end _ _ c.last_shown-last.ensures c.part.ensures in
    let all = coming-all _ a.at (line_shown a.text.now a.shown.begin a.shown.place a.shown.end) low long in
    let one = coming-on _ _ _ _ _ _ _ _ _ _ whole all c.put_bytes-indent.ensures in
    let two = coming-on _ _ _ _ _ _ _ _ _ _ refl one c.put_dots-cut.ensures in
    let three = coming-on _ _ _ _ _ _ _ _ _ _ refl two c.put_seen-seen.ensures in
    (coming-on _ _ _ _ _ _ _ _ _ _ refl three c.put_dots-rest.ensures).whole _ _ c.put_byte.ensures
