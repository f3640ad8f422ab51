use native.Mathlib.Omega.{arith}
use Rattle.put.proofs.PutLaws.{coming-all, coming-on, come}
use Rattle.row_line.proofs.LineLaws.{words-next, words-end}
use Rattle.row_line.proofs.put_words.Goals as goal

pub loop-byte-init : goal.loop-byte-init
loop-byte-init c = coming-all _ _ _ (omega arith) (omega arith)

pub loop-byte-preserved : goal.loop-byte-preserved
loop-byte-preserved c =
    let a = c.args in
    coming-on _ _ _ _ _ _ _ _ _ _ (words-next a.words.now a.fields c.loop-byte.byte-index c.loop-byte-test.true) c.loop-byte.invariant c.put_piece-to.ensures

pub returns : goal.returns
returns c =
    let a = c.args in
    come _ _ _ _ _ _ (words-end a.words.now a.fields c.loop-byte.byte-index c.loop-byte-test.false) c.loop-byte.invariant
