use Rattle.matches.proofs.OfferLaws.{all-seq-cst}
use Rattle.matches.proofs.all_seq_cst.Goals as goal

pub returns : goal.returns
returns c =
    let args = c.args in
    all-seq-cst args.numbers.now _ _ _ args.access.order _ _ c.store_at.ensures c.store_at-2.ensures
