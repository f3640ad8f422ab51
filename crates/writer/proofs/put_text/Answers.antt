use Prim.Native.Nat.{◌≤◌}
use mathlib.Core.Path.{refl, sym}
use native.Mathlib.Omega.{arith}
use lib.ListN.{length}
use Rattle.rules.specs.Token.{bytes_of}
use Rattle.rules.specs.Writer.{written_text}
use Rattle.put.specs.Puts.{last}
use Rattle.put.proofs.PutLaws.{coming-all, coming-on}
use Rattle.writer.proofs.TextLaws.{text-whole}
use Rattle.writer.proofs.put_text.Goals as goal

pub returns : goal.returns
unfolding bytes_of
returns c =
    let long : length c.args.text.now ≤ last =
    omega arith in
    let a = c.args in
    let all = coming-all _ 0 (written_text a.table.now a.condition.now) (omega arith) long in
    let one = coming-on _ _ _ _ _ _ _ _ _ _ (sym (text-whole a.table.now a.condition.now _ c.wide8.ensures.same)) all c.put_bytes-first.ensures in
    let two = coming-on _ _ _ _ _ _ _ _ _ _ refl one c.put_values-values.ensures in
    let three = coming-on _ _ _ _ _ _ _ _ _ _ refl two c.put_byte-feed.ensures in
    let four = coming-on _ _ _ _ _ _ _ _ _ _ refl three c.put_plains-plains.ensures in
    (coming-on _ _ _ _ _ _ _ _ _ _ refl four c.put_threads-threads.ensures).whole _ _ c.put_condition.ensures
