use Rattle.matches.proofs.OfferLaws.{compared-told}
use Rattle.matches.proofs.compare_orders.Goals as goal

pub returns : goal.returns
returns c =
    compared-told c.args.clocks.now _ _ _ _ _ c.store_at.ensures c.store_at-2.ensures _ c.partial_cmp.ensures
