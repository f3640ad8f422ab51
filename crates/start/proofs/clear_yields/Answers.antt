use mathlib.Core.Path.{refl, ◌∙◌}
use Rattle.rules.specs.Machine.{no_yield}
use Rattle.thread.proofs.ThreadLaws.{for-on, for-end}
use Rattle.start.proofs.clear_yields.Goals as goal

pub loop-t-preserved : goal.loop-t-preserved
loop-t-preserved c = for-on no_yield c.loop-t.numbers 5 c.loop-t.t c.loop-t-test.true _ refl ∙ c.loop-t.invariant

pub returns : goal.returns
returns c = for-end no_yield c.loop-t.numbers 5 c.loop-t.t c.loop-t-test.false ∙ c.loop-t.invariant
