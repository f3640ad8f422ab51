use Prim.Native.Nat.{ℕ, ◌+◌}
use mathlib.Core.Path.{ap}
use lib.ListN.{get_or}
use Rattle.execution.proofs.register_of.Goals as goal

pub returns : goal.returns
returns c = ap (λ (x : ℕ). get_or c.args.values.now (28 + x) 0) c.register_at.ensures
