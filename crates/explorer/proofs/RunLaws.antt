-- Small facts of a run. Assumes nothing.
--     goes-on                      a run that goes on is not at its last execution
--     greater-within               the greater of two counts is within the trace
use Prim.Native.Nat.{ℕ, ◌*◌, ◌/◌, ◌≤◌}
use mathlib.Core.Path.{◌≡◌, subst}
use native.Mathlib.Omega.{arith}
use lib.Dec.{eqb}
use borrow.Author.Tests.{eqb-false}
use Rattle.ending.specs.Ends.{Continues}
use Rattle.report.specs.declared.Answer.{Answer}
use Rattle.std.specs.Prelude.{Option, None}
use Rattle.explorer.specs.Runs.{Greater}

pub goes-on : (v : Option Answer) (begun executions : ℕ) → v ≡ None → Continues v (eqb begun executions) → begun ≡ executions → ⊥
goes-on v begun executions e h =
    eqb-false begun executions (subst (λ (x : Option Answer). Continues x (eqb begun executions)) e h)

pub greater-within : {x y r m n : ℕ} → Greater x y r → 16 * x ≤ m → 16 * y ≤ n → m ≡ n → 16 * r ≤ n
greater-within {x} {y} {r} {m} {n} g h k e = omega (arith, g.least (n / 16) (omega arith) (omega arith))
