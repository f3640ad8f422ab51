use mathlib.Core.Path.{◌∙◌}
use Rattle.start.proofs.StartLaws.{threads-start, threads-on, threads_end}
use Rattle.start.proofs.start_threads.Goals as goal

pub loop-t-init : goal.loop-t-init
loop-t-init c = λ marks values. threads-start c.args.clocks.now marks values c.args.numbers.now c.args.threads 0

pub loop-t-preserved : goal.loop-t-preserved
loop-t-preserved c =
    λ marks values. threads-on c.loop-t.clocks marks values c.loop-t.numbers c.args.threads c.loop-t.t c.loop-t-test.true _ c.first_causality.ensures ∙ c.loop-t.invariant marks values

pub returns : goal.returns
returns c =
    λ marks values. threads_end c.loop-t.clocks marks values c.loop-t.numbers c.args.threads c.loop-t.t c.loop-t-test.false ∙ c.loop-t.invariant marks values
