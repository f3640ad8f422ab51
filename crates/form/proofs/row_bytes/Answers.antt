use mathlib.Core.Path.{◌≡◌}
use lib.ListN.{length}
use Rattle.form.proofs.ByteLaws.{row-all}
use borrow.Author.Rules.{rules}
use Rattle.form.proofs.row_bytes.Goals as goal

pub returns : goal.returns
returns c =
    let long : length c.args.fields ≡ 9 = search rules in
    row-all c.args.fields long c.low_bytes-target.result c.low_bytes-a.result c.low_bytes-b.result c.low_bytes-target.ensures c.low_bytes-a.ensures c.low_bytes-b.ensures
