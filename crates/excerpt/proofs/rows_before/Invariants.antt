use Prim.Native.Nat.{◌+◌, ◌-◌, ◌≤◌}
use mathlib.Core.Path.{◌≡◌}
use lib.ListN.{drop}
use Rattle.excerpt.specs.Excerpts.{rows_behind}
use Rattle.excerpt.proofs.rows_before.Given as goal

abbrev pub invariant-loop-passed : goal.invariant-loop-passed
invariant-loop-passed l =
    (l.rows + 1 ≤ l._passed) × (rows_behind (l.line - l._passed) l.rows (drop l.at l.text) ≡ rows_behind (l.line - 1) 0 l.text)
