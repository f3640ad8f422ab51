use mathlib.Core.Path.{sym, ◌∙◌}
use Rattle.rules.specs.State.{marks_of}
use Rattle.fence.proofs.FenceLaws.{stores-start, stores-seen, stores-unseen, stores-end}
use Prim.Native.Nat.{◌-◌}
use Rattle.fence.proofs.fence_acq_cell.Goals as goal
use Rattle.fence.proofs.fence_acq_cell.Goals.{else-is_seen, then-is_seen}

pub loop-k-init : goal.loop-k-init
loop-k-init c = stores-start _ _ c.args.count c.args.thread c.args.cell _ c.live_stores-live.ensures.is

pub loop-k-preserved : goal.loop-k-preserved
loop-k-preserved c =
    let args = c.args in
    let inv = c.loop-k.invariant in
    elim c.if-is_seen.branch [
      | then-is_seen w ↦ rw w.clocks-is (stores-seen _ _ args.count args.thread args.cell _ _ _ c.loop-k-test.true c.kth_oldest-slot.ensures.is _ c.is_seen.ensures w.if-is_seen.true _ w.sync_load.ensures ∙ inv)
      | else-is_seen w ↦ rw w.clocks-is (stores-unseen _ _ args.count args.thread args.cell _ _ _ c.loop-k-test.true c.kth_oldest-slot.ensures.is _ c.is_seen.ensures w.if-is_seen.false ∙ inv)
    ]

pub returns : goal.returns
returns c =
    let args = c.args in
    sym (stores-end _ (marks_of args.marks.now args.cell) args.count args.thread args.cell _ c.loop-k.k c.loop-k-test.false) ∙ c.loop-k.invariant
