use mathlib.Core.Bool.{Bool, true}
use mathlib.Core.Path.{◌≡◌}
use Prim.Native.Nat.{ℕ, ◌-◌}
use Rattle.rules.specs.Cell.{fate_from, live_in}
use Rattle.matches.proofs.rmw_fate.Given as goal

-- any store that is met above drops it
abbrev anyone : ℕ → Bool
anyone j = true

abbrev pub invariant-loop-j : goal.invariant-loop-j
invariant-loop-j l =
    (fate_from l.clocks l.cell l.i anyone (l.live - l.j) l.j ≡ fate_from l.clocks l.cell l.i anyone (live_in l.numbers l.cell) 0)
