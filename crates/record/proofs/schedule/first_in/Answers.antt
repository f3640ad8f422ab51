use borrow.Author.Rules.{rules}
use borrow.Author.Tests.{tests}
use lib.Dec.{eqb}
use lib.ListN.{length}
use mathlib.Core.Path.{ap, ◌∙◌}
use Rattle.std.proofs.lemmas.Iterator.{YieldsList-from_slice}
use Rattle.std.proofs.lemmas.Iterator.Search.{position_from_yields_List}
use Rattle.record.proofs.StatesLaws.{length-states_at, first-is}
use Rattle.record.proofs.ScheduleLaws.{first-by}
use Rattle.record.proofs.schedule.first_in.Goals as goal

pub returns : goal.returns
returns c =
    let x = c.args.state in
    let found = position_from_yields_List (λ s. eqb s x) _ _ c.position.result c.position.ensures.ran (YieldsList-from_slice _ c.iter.ensures.rest) (λ s b q k. search (rules, tests)) in
    rw c.states.ensures at (first-by x _ _ (ap length c.states.ensures ∙ length-states_at _ _ c.requires) (first-is x _ _ found))
