use mathlib.Core.Path.{◌≡◌, refl}
use lib.ListN.{length}
use Rattle.numbers.proofs.NumberLaws.{twenty}
use borrow.Author.Rules.{rules}
use Rattle.numbers.proofs.summaries.Goals as goal

pub returns : goal.returns
returns c =
    let long : length c.args.threads ≡ 5 = search rules in
    (twenty c.args.threads (record { state = 0; rows = 0; yields = 0; version = 0 }) long _ _ _ _ _ c.summary-a.ensures c.summary-b.ensures c.summary-c.ensures c.summary-d.ensures c.summary-e.ensures, refl)
