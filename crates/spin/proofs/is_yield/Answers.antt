use Prim.Native.Nat.{ℕ}
use mathlib.Core.Path.{ap}
use lib.Dec.{eqb}
use Rattle.spin.proofs.is_yield.Goals as goal

pub returns : goal.returns
returns c = ap (λ (x : ℕ). eqb x 7) c.opcode.ensures
