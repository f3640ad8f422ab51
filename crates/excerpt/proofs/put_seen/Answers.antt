use native.Mathlib.Omega.{arith}
use Rattle.put.proofs.PutLaws.{coming-all, coming-on, come}
use Rattle.excerpt.specs.Excerpts.{seen_as}
use Rattle.excerpt.proofs.SeenLaws.{mapped_next, mapped_end}
use Rattle.excerpt.proofs.put_seen.Goals as goal

pub loop-byte-init : goal.loop-byte-init
loop-byte-init c = coming-all _ _ _ (omega arith) (omega arith)

pub loop-byte-preserved : goal.loop-byte-preserved
loop-byte-preserved c =
    let a = c.args in
    coming-on _ _ _ _ _ _ _ _ _ _ (mapped_next (seen_as a.below) a.bytes.now c.loop-byte.byte-index c.loop-byte-test.true _ c.seen_as.ensures) c.loop-byte.invariant c.put_byte-to.ensures

pub returns : goal.returns
returns c =
    let a = c.args in
    come _ _ _ _ _ _ (mapped_end (seen_as a.below) a.bytes.now c.loop-byte.byte-index c.loop-byte-test.false) c.loop-byte.invariant
