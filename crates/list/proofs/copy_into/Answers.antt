use Rattle.std.proofs.Common.{◌≡◌, length, rules}
use Rattle.list.proofs.Lists.{copied, both}
use Rattle.list.proofs.copy_into.Goals as goal

pub returns : goal.returns
returns c =
    let long : length c.args.threads ≡ 5 = search rules in
    rw c.if-not-ran-list.false (copied _ c.args.list.now c.args.threads (both _ _ c.if-not-ran-list.false) long)
