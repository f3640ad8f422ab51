use mathlib.Core.Path.{sym, ◌∙◌}
use mathlib.Core.Logic.{inl, inr}
use Rattle.matches.proofs.OfferLaws.{fate-all, fate-none, fate-own, fate-told, fate-dropped, fate-below, drops-some, drops-none}
use Rattle.matches.proofs.load_fate.Goals as goal
use Rattle.matches.proofs.load_fate.Goals.{else-j-i, then-j-i+in-Less+else-seen-j+else-before_yield+else-all_seq_cst, then-j-i+in-Neither, then-seen-j-via-else-seen-j+else-before_yield+then-all_seq_cst, then-seen-j-via-else-seen-j+then-before_yield, then-seen-j-via-then-seen-j}

pub loop-j-init : goal.loop-j-init
loop-j-init c = fate-all _ _ _ _ _ _ c.live_stores-live.ensures.is

pub returns-in-Equal : goal.returns-in-Equal
returns-in-Equal c =
    fate-told _ _ _ _ _ _ _ c.loop-j.invariant c.loop-j-test.true c.if-j-i.true _ _ c.compare_orders.ensures c.in-Equal.is

pub returns-then-seen-j : goal.returns-then-seen-j
returns-then-seen-j c =
    fate-dropped
    _
    _
    _
    _
    _
    _
    _
    c.loop-j.invariant
    c.loop-j-test.true
    c.if-j-i.true
    _
    c.compare_orders.ensures
    c.in-Less.is
    (drops-some _ _ _ (elim c.then-seen-j.branch [
      | then-seen-j-via-then-seen-j w ↦ inl w.if-seen-j.true
      | then-seen-j-via-else-seen-j+then-before_yield w ↦ inr (inl w.if-before_yield.true)
      | then-seen-j-via-else-seen-j+else-before_yield+then-all_seq_cst w ↦ inr (inr (sym w.all_seq_cst.ensures ∙ w.if-all_seq_cst.true))
    ]))

pub loop-j-preserved : goal.loop-j-preserved
loop-j-preserved c =
    let h = c.loop-j-test.true in
    elim c.if-j-i.branch [
      | then-j-i+in-Less+else-seen-j+else-before_yield+else-all_seq_cst w ↦ fate-below _ _ _ _ _ _ _ c.loop-j.invariant h w.if-j-i.true _ w.compare_orders.ensures w.in-Less.is (drops-none _ _ _ w.if-seen-j.false w.if-before_yield.false (sym w.all_seq_cst.ensures ∙ w.if-all_seq_cst.false))
      | then-j-i+in-Neither w ↦ fate-told _ _ _ _ _ _ _ c.loop-j.invariant h w.if-j-i.true _ _ w.compare_orders.ensures w.in-Neither.is
      | else-j-i w ↦ fate-own _ _ _ _ _ _ _ c.loop-j.invariant h w.if-j-i.false
    ]

pub returns : goal.returns
returns c = fate-none _ _ _ _ _ _ _ c.loop-j.invariant c.loop-j-test.false
