use Rattle.page.proofs.PageLaws.{fill-number, fill-byte, fill_end}
use Rattle.page.proofs.fill.Goals as goal
use Rattle.page.proofs.fill.Goals.{else-byte-eq35, then-byte-eq35}

pub loop-byte-preserved : goal.loop-byte-preserved
loop-byte-preserved c =
    elim c.if-byte-eq35.branch [
      | then-byte-eq35 w ↦ rw (w.now-is, w.next-is) (fill-number _ _ _ _ _ _ _ c.loop-byte.invariant c.loop-byte-test.true _ c.put_byte-to.ensures w.if-byte-eq35.true)
      | else-byte-eq35 w ↦ rw (w.now-is, w.next-is) (fill-byte _ _ _ _ _ _ _ c.loop-byte.invariant c.loop-byte-test.true _ c.put_byte-to.ensures w.if-byte-eq35.false)
    ]

pub returns : goal.returns
returns c = fill_end _ _ _ _ _ _ _ c.loop-byte.invariant c.loop-byte-test.false
