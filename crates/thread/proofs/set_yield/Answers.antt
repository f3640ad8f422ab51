use Rattle.thread.proofs.ThreadLaws.{yielded-as}
use Rattle.thread.proofs.set_yield.Goals as goal

pub returns : goal.returns
returns c =
    let args = c.args in
    λ marks values. yielded-as args.clocks.now marks values args.numbers.now args.thread _ _ c.version.ensures c.one_more.ensures
