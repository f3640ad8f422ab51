use Prim.Native.Nat.{◌+◌, ◌-◌, ◌≤◌}
use mathlib.Core.Path.{◌≡◌}
use lib.ListN.{drop}
use Rattle.rules.specs.Text.{rows_ahead}
use Rattle.ahead.proofs.rows_ahead.Given as goal

abbrev pub invariant-loop-i : goal.invariant-loop-i
invariant-loop-i l =
    (l.rows + (l.lines - l.i) ≤ l.lines) × (l.rows + rows_ahead (l.lines - l.i) (drop l.from l.text) ≡ rows_ahead l.lines (drop l.at l.text))
