use Rattle.reasons.specs.Wrong.{is_opcode}
use Rattle.reasons.proofs.is_opcode.Goals as goal

pub returns : goal.returns
unfolding is_opcode
returns c = c.is_fit.ensures
