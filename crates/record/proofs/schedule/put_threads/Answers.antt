use borrow.Author.Rules.{rules}
use mathlib.Core.Path.{◌≡◌}
use lib.ListN.{length}
use Rattle.record.proofs.FieldLaws.{threads-by}
use Rattle.record.proofs.schedule.put_threads.Goals as goal

pub returns : goal.returns
returns c =
    let five : length c.args.seed ≡ 5 = search rules in
    threads-by _ _ c.requires _ _ five c.put_part.ensures
