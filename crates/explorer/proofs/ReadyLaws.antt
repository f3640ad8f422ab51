-- What a run may take for granted of its settings. Assumes nothing.
use Prim.Native.Nat.{ℕ, ◌≤◌, ◌<◌}
use mathlib.Core.List.{List}
use native.Mathlib.Omega.{arith}
use Rattle.rules.specs.Explored as rules
use Rattle.rules.proofs.LimitLaws.{operations-most, executions-most, operations-fit}
use Rattle.iteration.specs.Executes.{RunReady}

module _ {table : List ℕ} {s : rules.Settings} {path trace : List ℕ} (ready : RunReady table s path trace) where
  pub ready-executions : (1 ≤ s.executions) × (s.executions ≤ rules.max_executions)
  ready-executions = executions-most s ready.in-range

  -- it has room in a u16
  pub ready-operations : s.operations < 65536
  ready-operations = let n = operations-most s ready.in-range in omega (arith, operations-fit)
