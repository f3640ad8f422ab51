use borrow.Author.Rules.{rules}
use borrow.Author.Tests.{tests}
use lib.Dec.{eqb}
use Rattle.rules.specs.Path.{pending}
use Rattle.std.proofs.lemmas.Iterator.{YieldsList-from_slice}
use Rattle.std.proofs.lemmas.Iterator.Consumers.{YieldsList-from_filter, count_from_yields_List}
use Rattle.record.proofs.StatesLaws.{length-states_at, counts-are}
use Rattle.record.proofs.schedule.pending.Goals as goal

pub returns : goal.returns
returns c =
    let counted = count_from_yields_List c.filter-waiting.result _ c.count.ensures.ran (YieldsList-from_filter _ (λ s. eqb s pending) (YieldsList-from_slice c.states.result.now cc) c.filter-waiting.ensures.closure (λ s b q k. search (rules, tests))) in
    rw (counted, c.states.ensures) (counts-are _ (length-states_at _ _ c.requires))
