use mathlib.Core.Path.{◌≡◌}
use Prim.Native.Nat.{◌-◌}
use Rattle.rules.specs.Cell.{fate_from, live_in}
use Rattle.matches.specs.Offers.{drops}
use Rattle.matches.proofs.load_fate.Given as goal

abbrev pub invariant-loop-j : goal.invariant-loop-j
invariant-loop-j l =
    let dropping = drops l.seen l.before_yield l.numbers l.access.cell l.access.order l.i in
    let fate = fate_from l.clocks l.access.cell l.i dropping in
    (fate (l.live - l.j) l.j ≡ fate (live_in l.numbers l.access.cell) 0)
