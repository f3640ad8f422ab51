use borrow.Author.Rules.{rules}
use Rattle.rules.specs.Cell.{matched_rmw}
use Rattle.matches.proofs.OfferLaws.{offer-all, offer-none, offer-kept, offer-dropped, offer-equal}
use Rattle.matches.proofs.match_rmw_to_stores.Goals as goal
use Rattle.matches.proofs.match_rmw_to_stores.Goals.{then-branch, else-branch}

pub loop-i-init : goal.loop-i-init
loop-i-init c = (search rules, offer-all _ _ _ _ c.live_stores-live.ensures.is)

pub returns-in_err-rmw_fate : goal.returns-in_err-rmw_fate
unfolding matched_rmw
returns-in_err-rmw_fate c = offer-equal _ _ _ _ _ _ c.loop-i.invariant.1 c.loop-i-test.true c.in_err-rmw_fate.ensures _ c.from_residual.ensures.0

pub loop-i-preserved : goal.loop-i-preserved
loop-i-preserved c =
    elim c.if-branch.branch [
      | then-branch w ↦ (search rules, offer-kept _ _ _ _ _ _ c.loop-i.invariant.1 c.loop-i-test.true _ c.in_ok-rmw_fate.ensures _ _ w.if-branch.true w.dst-is w.n-is)
      | else-branch w ↦ (search rules, offer-dropped _ _ _ _ _ _ c.loop-i.invariant.1 c.loop-i-test.true _ c.in_ok-rmw_fate.ensures _ _ w.if-branch.false w.dst-is w.n-is)
    ]

pub returns : goal.returns
unfolding matched_rmw
returns c = offer-none _ _ _ _ _ _ c.loop-i.invariant.1 c.loop-i-test.false
