use native.Mathlib.Omega.{arith}
use Rattle.rules.specs.Table.{u16_at}
use Rattle.little.proofs.u16_at.Goals as goal

pub returns : goal.returns
unfolding u16_at
returns c = omega (arith, c.from_le_bytes.ensures)
