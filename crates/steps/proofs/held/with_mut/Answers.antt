use mathlib.Core.Path.{refl, ◌∙◌}
use borrow.Author.Tests.{lt-ltb}
use Rattle.steps.specs.Holds.{newest_value, exclusive_left, exclusive_held}
use Rattle.steps.proofs.HoldLaws.{reads, left-from}
use Rattle.steps.proofs.OpLaws.{changed-as}
use Rattle.steps.proofs.held.with_mut.Goals as goal

pub returns-in-Some : goal.returns-in-Some
unfolding exclusive_held
returns-in-Some c =
    left-from exclusive_left _ _ _ _ _ _ (reads c.args.held.now (newest_value c.args.cell) refl (lt-ltb _ _ c.requires.1)) c.put.ensures (c.write_over.ensures ∙ changed-as (exclusive_left _ _ _) c.apply.ensures c.in-Some.is)

pub returns-in_default : goal.returns-in_default
unfolding exclusive_held
returns-in_default c =
    left-from exclusive_left _ _ _ _ _ _ (reads c.args.held.now (newest_value c.args.cell) refl (lt-ltb _ _ c.requires.1)) c.put.ensures (changed-as (exclusive_left _ _ _) c.apply.ensures c.in_default.is)
