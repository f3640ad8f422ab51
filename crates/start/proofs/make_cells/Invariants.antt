use Prim.Native.Nat.{◌-◌}
use mathlib.Core.Path.{◌≡◌}
use Rattle.rules.specs.Machine.{cells_made}
use Rattle.layout.specs.Tables.{state}
use Rattle.start.proofs.make_cells.Given as goal

abbrev pub invariant-loop-cell : goal.invariant-loop-cell
invariant-loop-cell l = cells_made l.table (state l.clocks l.marks l.values l.numbers) (l.cells - l.cell) l.cell ≡ cells_made l.table (state l.initial.clocks l.initial.marks l.initial.values l.initial.numbers) l.cells 0
