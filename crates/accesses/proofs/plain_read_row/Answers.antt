use mathlib.Core.Path.{refl}
use Rattle.accesses.proofs.AccessLaws.{reads_as}
use Rattle.accesses.proofs.plain_read_row.Goals as goal

pub returns : goal.returns
returns c =
    λ marks opcode m. reads_as _ _ _ _ _ _ _ refl _ _ (c.read-loaded.ensures marks c.args.numbers.now) _ (c.put_value.ensures _ marks opcode m)
