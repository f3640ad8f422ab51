use Prim.Native.Nat.{◌-◌}
use mathlib.Core.Path.{◌≡◌}
use Rattle.rules.specs.State.{Marks, Numbers}
use Rattle.rules.specs.Table.{cells_of}
use Rattle.rules.specs.Machine.{plains_made}
use Rattle.layout.specs.Tables.{state}
use Rattle.start.proofs.make_plains.Given as goal

abbrev pub invariant-loop-plain : goal.invariant-loop-plain
invariant-loop-plain l =
    (marks : Marks) (numbers : Numbers) → cells_of l.table ≡ l.cells → plains_made l.table (state l.clocks marks l.values numbers) (l.plains - l.plain) l.plain ≡ plains_made l.table (state l.initial.clocks marks l.initial.values numbers) l.plains 0
