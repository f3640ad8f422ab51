use Rattle.accesses.proofs.AccessLaws.{reads_as}
use Rattle.accesses.proofs.unsync_load_row.Goals as goal

pub returns : goal.returns
returns c = λ marks opcode m. reads_as _ _ _ _ _ _ _ c.newest-slot.ensures.is _ _ (c.unsync_load-loaded.ensures marks) _ (c.put_value.ensures _ marks opcode m)
