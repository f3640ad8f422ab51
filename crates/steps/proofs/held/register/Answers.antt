use Prim.Native.Nat.{ℕ}
use mathlib.Core.Path.{ap, ◌∙◌}
use native.Mathlib.Omega.{arith}
use Rattle.steps.specs.Holds as holds
use Rattle.steps.proofs.HoldLaws.{reads_none, not_first, not-second}
use Rattle.steps.proofs.held.register.Goals as goal

pub returns-then-register-lt-REGISTERS : goal.returns-then-register-lt-REGISTERS
returns-then-register-lt-REGISTERS c =
    let g = c.args in
    c.register_of.ensures ∙ ap (λ (t : ℕ). holds.held g.held.now (holds.register t g.register)) c.wide8-t.ensures.same

pub returns-else-register-lt-REGISTERS : goal.returns-else-register-lt-REGISTERS
returns-else-register-lt-REGISTERS c = let g = c.args in reads_none g.held.now (holds.register g.thread g.register) (not-second g.thread g.register 5 4 (omega arith) (omega arith))

pub returns-else-t-lt-MAX_THREADS : goal.returns-else-t-lt-MAX_THREADS
returns-else-t-lt-MAX_THREADS c = let g = c.args in reads_none g.held.now (holds.register g.thread g.register) (not_first g.thread g.register 5 4 (omega arith))
