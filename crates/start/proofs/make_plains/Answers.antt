use mathlib.Core.Path.{◌∙◌}
use Rattle.rules.specs.Machine.{plain_made, plains_made}
use Rattle.layout.specs.Tables.{state}
use Rattle.start.proofs.StartLaws.{making-start, making-on, making-end, plains-stay, plains-go}
use Rattle.start.proofs.make_plains.Goals as goal

pub loop-plain-init : goal.loop-plain-init
loop-plain-init c =
    let args = c.args in
    λ marks numbers e. making-start (plains_made args.table.now) (plain_made args.table.now) (plains-stay args.table.now) (plains-go args.table.now) (state args.clocks.now marks args.values.now numbers) args.plains 0

pub loop-plain-preserved : goal.loop-plain-preserved
loop-plain-preserved c =
    let args = c.args in
    λ marks numbers e. making-on (plains_made args.table.now) (plain_made args.table.now) (plains-stay args.table.now) (plains-go args.table.now) (state c.loop-plain.clocks marks c.loop-plain.values numbers) args.plains c.loop-plain.plain c.loop-plain-test.true _ (c.make_plain.ensures marks numbers e) ∙ c.loop-plain.invariant marks numbers e

pub returns : goal.returns
returns c =
    let args = c.args in
    λ marks numbers e.
    making-end (plains_made args.table.now) (plain_made args.table.now) (plains-stay args.table.now) (plains-go args.table.now) (state c.loop-plain.clocks marks c.loop-plain.values numbers) args.plains c.loop-plain.plain c.loop-plain-test.false ∙ c.loop-plain.invariant marks numbers e
