use Prim.Native.Nat.{◌+◌, ◌≤◌}
use mathlib.Core.Path.{◌≡◌}
use lib.ListN.{take, drop}
use Rattle.rules.specs.Text.{place_behind}
use Rattle.ahead.proofs.place_of.Given as goal

abbrev pub invariant-loop-byte : goal.invariant-loop-byte
invariant-loop-byte l =
    (l.place.line ≤ l.byte-index + 1) × (l.place.column ≤ l.byte-index + 1) × (place_behind l.place.line l.place.column (drop l.byte-index (take l.at l.text)) ≡ place_behind 1 1 (take l.at l.text))
