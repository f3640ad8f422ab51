use Prim.Native.Nat.{◌≤◌}
use lib.ListN.{length}
use Rattle.put.specs.Puts.{last}
use native.Mathlib.Omega.{arith}
use Rattle.put.proofs.PutLaws.{puts_then, puts-are}
use Rattle.condition_line.proofs.UnitLaws.{comparison-whole}
use Rattle.condition_line.proofs.put_comparison.Goals as goal

pub returns : goal.returns
returns c =
    let long : length c.args.text.now ≤ last =
    omega arith in
    puts-are _ _ _ _ _ _ (comparison-whole _ _ _ c.u64_at.ensures)
    (puts_then _ _ _ _ _ _ _ _ long c.put_bytes-named.ensures
    (puts_then _ _ _ _ _ _ _ _ (omega arith) c.put_symbol-signed.ensures
    (puts_then _ _ _ _ _ _ _ _ (omega arith) c.put_byte-blank.ensures c.put_number.ensures)))
