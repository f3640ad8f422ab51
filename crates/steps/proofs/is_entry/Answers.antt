use Rattle.steps.proofs.EntryLaws.{entry_found}
use Rattle.steps.proofs.is_entry.Goals as goal

pub returns : goal.returns
returns c = entry_found c.opcode.ensures c.mask.ensures
