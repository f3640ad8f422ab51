use mathlib.Core.Path.{◌≡◌}
use lib.ListN.{drop}
use Rattle.rules.specs.Table.{counts_of, counts_fine}
use Rattle.table.proofs.counts_fine.Given as goal

abbrev pub invariant-loop-thread : goal.invariant-loop-thread
invariant-loop-thread l =
    counts_fine l.threads l.thread (drop l.thread (counts_of l.table)) ≡ counts_fine l.threads 0 (counts_of l.table)
