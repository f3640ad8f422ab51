use Prim.Native.Nat.{◌≤◌, ◌*◌}
use mathlib.Core.Path.{◌≡◌}
use lib.ListN.{drop}
use Rattle.rules.specs.Table.{counts_of, rows_judged}
use Rattle.table.proofs.judge.Given as goal

abbrev pub invariant-loop-thread : goal.invariant-loop-thread
invariant-loop-thread l =
    (l.first ≤ 255 * l.thread) × (rows_judged l.table l.thread l.first (drop l.thread (counts_of l.table)) ≡ rows_judged l.table 0 0 (counts_of l.table))
