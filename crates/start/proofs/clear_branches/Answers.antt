use mathlib.Core.Path.{refl, ◌∙◌}
use Rattle.rules.specs.Machine.{no_access}
use Rattle.thread.proofs.ThreadLaws.{for-on, for-end}
use Rattle.start.proofs.clear_branches.Goals as goal

pub loop-cell-preserved : goal.loop-cell-preserved
loop-cell-preserved c = for-on no_access c.loop-cell.numbers 4 c.loop-cell.cell c.loop-cell-test.true _ refl ∙ c.loop-cell.invariant

pub returns : goal.returns
returns c = for-end no_access c.loop-cell.numbers 4 c.loop-cell.cell c.loop-cell-test.false ∙ c.loop-cell.invariant
