use mathlib.Core.Path.{◌≡◌}
use lib.ListN.{drop}
use Rattle.record.specs.Choices.{offers}
use Rattle.record.specs.Fields.{values_at}
use Rattle.record.proofs.load.with_mask.Given as goal

abbrev pub invariant-loop-value : goal.invariant-loop-value
invariant-loop-value l =
    offers l.slot l.mask (drop l.value-index (values_at l.path l.at l.n)) ≡ offers l.slot 0 (values_at l.path l.at l.n)
