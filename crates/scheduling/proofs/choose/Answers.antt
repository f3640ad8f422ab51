use mathlib.Core.List.{[]}
use mathlib.Core.Path.{◌∙◌}
use Rattle.rules.specs.State.{with_number, active_thread}
use Rattle.layout.specs.Tables.{state}
use Rattle.scheduling.proofs.ScheduleLaws.{means-none, means-on, access-none, access-on, left_as, switched-as}
use borrow.Author.Rules.{rules}
use Rattle.scheduling.proofs.choose.Goals as goal
use Rattle.scheduling.proofs.choose.Goals.{in-Some, in_default}

pub set_last_access-requires : goal.set_last_access-requires
set_last_access-requires c =
    (search rules, (means-on _ _ c.args.chosen (c.pending_operation.ensures [] [] []) _ c.in-Some.is).within)

pub returns : goal.returns
returns c =
    let args = c.args in
    λ marks values.
    let st = state args.clocks.now marks values (with_number args.numbers.now active_thread args.chosen) in
    let means = c.pending_operation.ensures args.clocks.now marks values in
    let t = args.chosen in
    switched-as args.clocks.now c.match-pending_operation.clocks marks values args.numbers.now c.match-pending_operation.numbers _ t args.branch
    (elim c.match-pending_operation.branch [
      | in-Some w ↦ left_as _ _ marks values _ _ w.clocks-is w.numbers-is ∙ w.set_last_access.ensures marks values ∙ access-on st t args.branch _ _ (means-on _ st t means _ w.in-Some.is)
      | in_default w ↦ left_as _ _ marks values _ _ w.clocks-is w.numbers-is ∙ access-none st t args.branch (means-none _ st t means w.in_default.is)
    ])
    c.reactivate.ensures
