use Prim.Native.Nat.{◌≤◌}
use native.Mathlib.Omega.{arith}
use lib.ListN.{length}
use Rattle.rules.specs.Token.{bytes_of}
use Rattle.put.specs.Puts.{last}
use Rattle.put.proofs.PutLaws.{puts-are, puts_none, coming-all, coming-on}
use Rattle.saying.specs.Sayings.{name_shown}
use Rattle.saying.proofs.SayLaws.{name-none, name-some}
use Rattle.saying.proofs.put_name.Goals as goal

pub returns-then-name-eq0 : goal.returns-then-name-eq0
returns-then-name-eq0 c = let a = c.args in puts-are _ _ _ _ _ _ (name-none a.name.now c.if-name-eq0.true) (puts_none _ _ (omega arith))

pub returns : goal.returns
unfolding bytes_of
returns c =
    let low : c.args.at ≤ last =
    omega arith in
    let long : length c.args.page.now ≤ last =
    omega arith in
    let a = c.args in
    let all = coming-all _ a.at (name_shown a.name.now) low long in
    (coming-on _ _ _ _ _ _ _ _ _ _ (name-some a.name.now c.if-name-eq0.false) all c.put_bytes-behind.ensures).whole _ _ c.put_bytes.ensures
