use Rattle.ending.proofs.JudgeLaws.{no_threads}
use Rattle.ending.proofs.threads_of.Goals as goal

pub returns-then-table-eq0 : goal.returns-then-table-eq0
returns-then-table-eq0 c = no_threads c.args.table.now c.if-table-eq0.true
