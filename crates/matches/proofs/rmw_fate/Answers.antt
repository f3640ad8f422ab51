use mathlib.Core.Bool.{Bool, true}
use Prim.Native.Nat.{ℕ}
use Rattle.rules.specs.Cell.{rmw_fate}
use Rattle.matches.proofs.OfferLaws.{fate-all, fate-none, fate-own, fate-told}
use Rattle.matches.proofs.rmw_fate.Goals as goal
use Rattle.matches.proofs.rmw_fate.Goals.{else-j-i, then-j-i+in-Neither}

-- any store that is met above drops it
abbrev anyone : ℕ → Bool
anyone j = true

pub loop-j-init : goal.loop-j-init
loop-j-init c = fate-all _ _ _ anyone _ _ c.live_stores-live.ensures.is

pub returns-in-Equal : goal.returns-in-Equal
unfolding rmw_fate
returns-in-Equal c =
    fate-told _ _ _ anyone _ _ _ c.loop-j.invariant c.loop-j-test.true c.if-j-i.true _ _ c.compare_orders.ensures c.in-Equal.is

pub returns-in-Less : goal.returns-in-Less
unfolding rmw_fate
returns-in-Less c =
    fate-told _ _ _ anyone _ _ _ c.loop-j.invariant c.loop-j-test.true c.if-j-i.true _ _ c.compare_orders.ensures c.in-Less.is

pub loop-j-preserved : goal.loop-j-preserved
loop-j-preserved c =
    let h = c.loop-j-test.true in
    elim c.if-j-i.branch [
      | then-j-i+in-Neither w ↦ fate-told _ _ _ anyone _ _ _ c.loop-j.invariant h w.if-j-i.true _ _ w.compare_orders.ensures w.in-Neither.is
      | else-j-i w ↦ fate-own _ _ _ anyone _ _ _ c.loop-j.invariant h w.if-j-i.false
    ]

pub returns : goal.returns
unfolding rmw_fate
returns c = fate-none _ _ _ anyone _ _ _ c.loop-j.invariant c.loop-j-test.false
