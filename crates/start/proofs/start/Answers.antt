use mathlib.Core.Path.{sym, ◌∙◌}
use Rattle.layout.specs.Tables.{state}
use Rattle.start.proofs.StartLaws.{start-as}
use Rattle.start.proofs.start.Goals as goal

pub returns : goal.returns
returns c =
    let threads = c.wide16 in
    let args = c.args in
    let cleared = c.clear.new in
    let made = c.make_cells.new in
    let plained = c.make_plains.new in
    λ p a b d e f.
    let held = e ∙ sym c.wide16-cells.ensures.same in
    start-as p cleared.clocks cleared.marks cleared.values cleared.numbers args.table.now args.exploring
    threads.result c.wide16-cells.result c.wide16-plains.result
    (state made.clocks made.marks made.values made.numbers) (state plained.clocks made.marks plained.values made.numbers) _ a b
    (d ∙ sym threads.ensures.same) held (f ∙ sym c.wide16-plains.ensures.same)
    c.clear.ensures c.make_cells.ensures (c.make_plains.ensures made.marks made.numbers (rw a at held)) (c.start_threads.ensures made.marks plained.values)
