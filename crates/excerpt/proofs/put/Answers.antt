use Prim.Native.Nat.{◌≤◌}
use mathlib.Core.Path.{refl}
use native.Mathlib.Omega.{arith}
use lib.ListN.{length}
use Rattle.put.specs.Puts.{last}
use Rattle.put.proofs.PutLaws.{coming-all, coming-on}
use Rattle.saying.specs.Sayings.{what_shown}
use Rattle.excerpt.specs.Excerpts.{refused_shown}
use Rattle.excerpt.proofs.SeenLaws.{refused-whole}
use Rattle.excerpt.proofs.put.Goals as goal

pub returns : goal.returns
returns c =
    let low : c.args.at ≤ last =
    omega arith in
    let long : length c.args.page.now ≤ last =
    omega arith in
    let shown = c.excerpt_at-shown.result in
    let a = c.args in
    let whole = refused-whole a.name.now a.text.now a.line a.column shown _ _ c.excerpt_at-shown.ensures c.rows_before-row.ensures c.token_before-before.ensures in
    let all = coming-all _ a.at (refused_shown a.name.now a.text.now a.line a.column) low long in
    let one = coming-on _ _ _ _ _ _ _ _ _ _ whole all c.put_place-named.ensures in
    let two = coming-on _ _ _ _ _ _ _ _ (what_shown a.text.now c.rows_before-row.result shown.begin c.token_before-before.result shown.place) _ refl one c.put_what-what.ensures in
    (coming-on _ _ _ _ _ _ _ _ _ _ refl two c.put_line-behind.ensures).whole _ _ c.put_caret.ensures
