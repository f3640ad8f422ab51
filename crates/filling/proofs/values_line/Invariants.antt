use Prim.Native.Nat.{◌-◌}
use mathlib.Core.Path.{◌≡◌}
use lib.ListN.{length, drop}
use Rattle.rules.specs.Text.{Draft, values_line}
use Rattle.filling.specs.Tables.{HeldTable, how_many, with_cell_or_plain}
use Rattle.filling.proofs.LineLaws.{Underway}
use Rattle.filling.proofs.values_line.Given as goal

abbrev pub invariant-loop-i : goal.invariant-loop-i
invariant-loop-i l =
    (length l.table ≡ length l.initial.table)
    × ((m : Draft) → HeldTable l.initial.table l.length m → Underway l.text l.table l.place l.long (l.i-end - l.i) l.from (values_line (with_cell_or_plain l.place) (how_many l.place) l.i-end m (drop l.at l.text)))
