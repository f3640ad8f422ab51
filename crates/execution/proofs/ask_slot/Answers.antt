use mathlib.Core.Path.{ap}
use Rattle.rules.specs.State.{State}
use Rattle.rules.specs.Machine.{asks_slot}
use Rattle.execution.proofs.ask_slot.Goals as goal

pub returns : goal.returns
returns c = λ marks values numbers t k opcode offered. ap (λ (s : State). asks_slot s (offered s)) (c.raise.ensures marks values numbers)
