use borrow.Author.Rules.{rules}
use mathlib.Core.Path.{◌≡◌}
use lib.ListN.{length}
use Rattle.record.proofs.FieldLaws.{offers-by}
use Rattle.record.proofs.load.put_values.Goals as goal

pub returns : goal.returns
returns c =
    let seven : length c.args.seed ≡ 7 = search rules in
    offers-by _ _ c.requires.0 _ _ seven c.requires.1 _ _ c.put_part.ensures c.put.ensures
