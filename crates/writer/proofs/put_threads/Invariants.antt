use Prim.Native.Nat.{◌-◌}
use Rattle.rules.specs.Table.{threads_of}
use Rattle.rules.specs.Writer.{threads_shown}
use Rattle.put.specs.Puts.{ToPut}
use Rattle.writer.proofs.put_threads.Given as goal

abbrev pub invariant-loop-thread : goal.invariant-loop-thread
invariant-loop-thread l =
    ToPut l.initial.text l.text l.at l.to (threads_shown l.table (threads_of l.table) 0) (threads_shown l.table (threads_of l.table - l.thread) l.thread)
