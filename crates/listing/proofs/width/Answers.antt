use mathlib.Core.Path.{refl}
use Rattle.listing.specs.Steps.{widest}
use Rattle.listing.proofs.StepLaws.{widest-more}
use Rattle.listing.proofs.width.Goals as goal

pub loop-i-init : goal.loop-i-init
unfolding widest
loop-i-init c = refl

pub loop-i-preserved : goal.loop-i-preserved
loop-i-preserved c = widest-more _ _ _ _ _ c.loop-i.invariant c.row_width.ensures c.max-most.ensures
