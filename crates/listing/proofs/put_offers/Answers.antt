use mathlib.Core.Path.{refl}
use Rattle.rules.specs.Token.{bytes_of}
use Rattle.listing.proofs.StepLaws.{each-put, each-skipped, each_none, each-end}
use Rattle.listing.proofs.put_offers.Goals as goal
use Rattle.listing.proofs.put_offers.Goals.{else-rest-eq1, then-rest-eq1}

pub loop-slot-init : goal.loop-slot-init
loop-slot-init c = refl

pub loop-slot-preserved : goal.loop-slot-preserved
loop-slot-preserved c =
    let h = c.loop-slot-test.true in
    let left = c.loop-slot.invariant in
    elim c.if-rest-eq1.branch [
      | then-rest-eq1 w ↦ rw (w.page-is, w.to-is, w.first-is) (each-put _ _ _ _ _ left h w.if-rest-eq1.true _ w.put_offer-to.ensures)
      | else-rest-eq1 w ↦ rw (w.page-is, w.to-is, w.first-is) (each-skipped _ _ _ _ _ left h w.if-rest-eq1.false)
    ]

pub returns-then-first : goal.returns-then-first
unfolding bytes_of
returns-then-first c =
    each_none _ _ _ _ _ c.loop-slot.invariant c.loop-slot-test.false c.if-first.true _ c.put.ensures

pub returns : goal.returns
returns c =
    each-end _ _ _ _ _ c.loop-slot.invariant c.loop-slot-test.false c.if-first.false
