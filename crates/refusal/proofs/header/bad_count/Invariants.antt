use Prim.Native.Nat.{◌-◌}
use mathlib.Core.Path.{◌≡◌}
use Rattle.rules.specs.Table.{max_threads, first_not}
use Rattle.refusal.specs.Headers.{one_below, bad_count}
use Rattle.refusal.proofs.RefusalLaws.{fine_at}
use Rattle.refusal.proofs.header.bad_count.Given as goal

abbrev pub invariant-loop-thread : goal.invariant-loop-thread
invariant-loop-thread l =
    one_below max_threads (first_not (fine_at l.table l.threads) (max_threads - l.thread) l.thread) ≡ bad_count l.table l.threads
