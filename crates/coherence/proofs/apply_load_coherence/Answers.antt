use mathlib.Core.Path.{refl, ◌∙◌}
use Prim.Native.Nat.{◌-◌}
use Rattle.coherence.proofs.OrderLaws.{cohere-start, cohere-all, cohere-done, cohere-own, cohere-seen, cohere-before, cohere-unknown}
use Rattle.coherence.proofs.apply_load_coherence.Goals as goal
use Rattle.coherence.proofs.apply_load_coherence.Goals.{else-i-slot, then-i-slot+else-is_seen+else-is_before, then-i-slot+then-is_seen, then-is_seen-via-else-is_seen+then-is_before, then-is_seen-via-then-is_seen}

pub loop-i-init : goal.loop-i-init
loop-i-init c =
    cohere-start _ _ _ _ _ _ _ _ _ c.store_at-chosen.ensures refl c.live_stores-live.ensures.is

pub loop-i-preserved : goal.loop-i-preserved
loop-i-preserved c =
    let h = c.loop-i-test.true in
    elim c.if-i-slot.branch [
      | then-i-slot+then-is_seen w ↦ elim w.then-is_seen.branch [
        | then-is_seen-via-then-is_seen v ↦ cohere-seen _ _ _ _ _ _ _ _ _ c.loop-i.invariant h _ w.if-i-slot.true _ w.store_at-at.ensures _ w.is_seen.ensures v.if-is_seen.true (w.order-is ∙ w.join-both.ensures)
        | then-is_seen-via-else-is_seen+then-is_before v ↦ cohere-before _ _ _ _ _ _ _ _ _ c.loop-i.invariant h _ w.if-i-slot.true _ w.store_at-at.ensures _ w.is_seen.ensures v.if-is_seen.false _ v.is_before.ensures v.if-is_before.true (w.order-is ∙ w.join-both.ensures)
      ]
      | then-i-slot+else-is_seen+else-is_before w ↦ cohere-unknown _ _ _ _ _ _ _ _ _ c.loop-i.invariant h _ w.if-i-slot.true _ w.store_at-at.ensures _ w.is_seen.ensures w.if-is_seen.false _ w.is_before.ensures w.if-is_before.false w.order-is
      | else-i-slot w ↦ cohere-own _ _ _ _ _ _ _ _ _ c.loop-i.invariant h _ w.if-i-slot.false w.order-is
    ]

pub returns : goal.returns
returns c =
    cohere-done _ _ _ _ _ _ _ _ c.store_at-chosen.ensures (cohere-all _ _ _ _ _ _ _ _ _ c.loop-i.invariant c.loop-i-test.false)
