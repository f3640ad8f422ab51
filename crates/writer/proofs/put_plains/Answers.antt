use Prim.Native.Nat.{◌≤◌}
use mathlib.Core.Path.{refl, sym}
use native.Mathlib.Omega.{arith}
use lib.ListN.{length}
use Rattle.rules.specs.Token.{bytes_of}
use Rattle.rules.specs.Writer.{plains_shown}
use Rattle.put.specs.Puts.{last}
use Rattle.put.proofs.PutLaws.{puts_none, puts-are, coming-all, coming-on}
use Rattle.writer.proofs.TextLaws.{plains-none, plains-some}
use Rattle.writer.proofs.put_plains.Goals as goal

pub bounds-table-1 : goal.bounds-table-1
bounds-table-1 c = omega (arith, c.requires.header)

pub bounds-table-7 : goal.bounds-table-7
bounds-table-7 c = omega (arith, c.requires.header)

pub returns-then-plains-eq0 : goal.returns-then-plains-eq0
returns-then-plains-eq0 c =
    let a = c.args in
    puts-are _ _ _ _ _ _ (sym (plains-none a.table.now _ c.wide8-plains.ensures.same c.if-plains-eq0.true)) (puts_none _ _ (omega arith))

pub put_values-values-requires : goal.put_values-values-requires
put_values-values-requires c =
    omega (arith, c.wide8-plains.ensures.bounded, c.wide8-cells.ensures.bounded)

pub returns : goal.returns
unfolding bytes_of
returns c =
    let long : length c.args.text.now ≤ last =
    omega arith in
    let a = c.args in
    let all = coming-all _ a.at (plains_shown a.table.now) (omega arith) long in
    let one = coming-on _ _ _ _ _ _ _ _ _ _ (plains-some a.table.now _ c.wide8-plains.ensures.same c.if-plains-eq0.false _ c.wide8-cells.ensures.same) all c.put_bytes-word.ensures in
    (coming-on _ _ _ _ _ _ _ _ _ _ refl one c.put_values-values.ensures).whole _ _ c.put_byte.ensures
