use mathlib.Core.Path.{refl, ◌∙◌}
use borrow.Author.Rules.{rules}
use Rattle.std.proofs.Common.{tests}
use Rattle.std.proofs.lemmas.Iterator.{YieldsList-from_range}
use Rattle.std.proofs.lemmas.Iterator.Search.{any_from_yields_List}
use Rattle.rules.specs.Machine.{can_run}
use Rattle.thread.proofs.ThreadLaws.{some_of_five}
use Rattle.thread.proofs.some_can_run.Goals as goal

pub returns : goal.returns
returns c =
    let numbers = c.args.numbers.now in
    any_from_yields_List (can_run numbers) _ _ _ c.any.ensures.ran (YieldsList-from_range 0 5 5 refl refl) (λ x b q k. search (rules, tests)) ∙ some_of_five numbers
