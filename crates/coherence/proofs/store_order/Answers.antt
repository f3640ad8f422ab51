use mathlib.Core.Path.{◌∙◌}
use Prim.Native.Nat.{◌-◌}
use Rattle.coherence.proofs.OrderLaws.{store-start, store-all, store-seen, store-unseen}
use Rattle.coherence.proofs.store_order.Goals as goal
use Rattle.coherence.proofs.store_order.Goals.{else-is_seen, then-is_seen}

pub loop-slot-init : goal.loop-slot-init
loop-slot-init c = store-start _ _ _ _ _ _ c.live_stores-live.ensures.is

pub loop-slot-preserved : goal.loop-slot-preserved
loop-slot-preserved c =
    let h = c.loop-slot-test.true in
    let seen = c.is_seen.ensures in
    elim c.if-is_seen.branch [
      | then-is_seen w ↦ store-seen _ _ _ _ _ _ _ _ c.loop-slot.invariant h _ _ seen w.if-is_seen.true _ w.store_at.ensures (w.order-is ∙ w.join-both.ensures)
      | else-is_seen w ↦ store-unseen _ _ _ _ _ _ _ _ c.loop-slot.invariant h _ _ seen w.if-is_seen.false w.order-is
    ]

pub returns : goal.returns
returns c = store-all _ _ _ _ _ _ _ _ c.loop-slot.invariant c.loop-slot-test.false
