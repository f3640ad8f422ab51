use Rattle.start.proofs.StartLaws.{blank-as, flag-told}
use Rattle.start.proofs.clear.Goals as goal

pub returns : goal.returns
returns c = blank-as _ c.clear_branches.new.numbers c.args.exploring c.from.result c.clear_yields.ensures c.clear_branches.ensures (flag-told _ _ c.from.ensures)
