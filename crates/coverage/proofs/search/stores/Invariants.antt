use Prim.Native.Nat.{◌+◌, ◌*◌, ◌≤◌, ◌-◌}
use mathlib.Core.Path.{◌≡◌}
use Rattle.rules.specs.Table.{max_threads}
use Rattle.coverage.specs.Covered.{summed, stores_in, store_count}
use Rattle.coverage.proofs.search.stores.Given as goal

abbrev pub invariant-loop-thread : goal.invariant-loop-thread
invariant-loop-thread l =
    (l.sum ≤ 65535 * l.thread) × (l.sum + summed (stores_in l.table l.shape l.cell) (max_threads - l.thread) l.thread ≡ store_count l.table l.cell)
