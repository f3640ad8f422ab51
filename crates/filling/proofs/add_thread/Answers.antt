use native.Mathlib.Omega.{arith}
use Rattle.filling.proofs.HeldLaws.{held-threads, held-thread}
use Rattle.filling.proofs.add_thread.Goals as goal

pub returns : goal.returns
returns c = λ m held.
    let a = c.args in
    held-thread a.table.now a.length m held (omega (arith, c.requires.1, held-threads a.table.now a.length m held))
