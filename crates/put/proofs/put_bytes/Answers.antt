use native.Mathlib.Omega.{arith}
use lib.ListN.{drop_of_length-le}
use Rattle.put.proofs.PutLaws.{byte_next, coming-all, coming-on, come}
use Rattle.put.proofs.put_bytes.Goals as goal

pub loop-byte-init : goal.loop-byte-init
loop-byte-init c = coming-all _ _ _ (omega arith) (omega arith)

pub loop-byte-preserved : goal.loop-byte-preserved
loop-byte-preserved c =
    coming-on _ _ _ _ _ _ _ _ _ _ (byte_next c.args.bytes.now c.loop-byte.byte-index c.loop-byte-test.true) c.loop-byte.invariant c.put_byte-to.ensures

pub returns : goal.returns
returns c =
    come _ _ _ _ _ _ (drop_of_length-le c.args.bytes.now {i = c.loop-byte.byte-index} c.loop-byte-test.false) c.loop-byte.invariant
