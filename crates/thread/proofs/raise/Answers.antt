use mathlib.Core.List.{List}
use mathlib.Core.Path.{ap}
use lib.ListN.{set}
use Prim.Native.Nat.{ℕ, ◌+◌}
use Rattle.layout.specs.Tables.{state}
use Rattle.thread.proofs.raise.Goals as goal

pub returns : goal.returns
returns c = let args = c.args in λ marks values numbers. ap (λ (row : List ℕ). state (set args.clocks.now (0 + args.thread) row) marks values numbers) c.raise-causality.ensures
