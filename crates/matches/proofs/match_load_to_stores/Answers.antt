use borrow.Author.Rules.{rules}
use mathlib.Core.Path.{◌∙◌}
use Rattle.rules.specs.Cell.{matched_load}
use Rattle.matches.proofs.OfferLaws.{fate-load, offer-all, offer-none, offer-kept, offer-dropped, offer-equal}
use Rattle.matches.proofs.match_load_to_stores.Goals as goal
use Rattle.matches.proofs.match_load_to_stores.Goals.{then-branch, else-branch}

pub loop-i-init : goal.loop-i-init
loop-i-init c = (search rules, offer-all _ _ _ _ c.live_stores-live.ensures.is)

pub returns-in_err-load_fate : goal.returns-in_err-load_fate
unfolding matched_load
returns-in_err-load_fate c = offer-equal _ _ _ _ _ _ c.loop-i.invariant.1 c.loop-i-test.true (c.in_err-load_fate.ensures ∙ fate-load _ c.args.marks c.args.numbers.now _ _ _ _ _ _ c.seen_slots-seen.ensures c.is_seen_before_yield-before_yield.ensures) _ c.from_residual.ensures.0

pub loop-i-preserved : goal.loop-i-preserved
loop-i-preserved c =
    let fated = c.in_ok-load_fate.ensures ∙ fate-load _ c.args.marks c.args.numbers.now _ _ _ _ _ _ c.seen_slots-seen.ensures c.is_seen_before_yield-before_yield.ensures in
    elim c.if-branch.branch [
      | then-branch w ↦ (search rules, offer-kept _ _ _ _ _ _ c.loop-i.invariant.1 c.loop-i-test.true _ fated _ _ w.if-branch.true w.dst-is w.n-is)
      | else-branch w ↦ (search rules, offer-dropped _ _ _ _ _ _ c.loop-i.invariant.1 c.loop-i-test.true _ fated _ _ w.if-branch.false w.dst-is w.n-is)
    ]

pub returns : goal.returns
unfolding matched_load
returns c = offer-none _ _ _ _ _ _ c.loop-i.invariant.1 c.loop-i-test.false
