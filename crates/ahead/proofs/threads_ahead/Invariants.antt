use Prim.Native.Nat.{◌+◌, ◌-◌, ◌≤◌}
use mathlib.Core.Path.{◌≡◌}
use lib.ListN.{drop}
use Rattle.rules.specs.Text.{threads_ahead}
use Rattle.ahead.proofs.threads_ahead.Given as goal

abbrev pub invariant-loop-i : goal.invariant-loop-i
invariant-loop-i l =
    (l.threads + (l.lines - l.i) ≤ l.lines) × (l.threads + threads_ahead (l.lines - l.i) (drop l.from l.text) ≡ threads_ahead l.lines (drop l.at l.text))
