use Prim.Native.Nat.{◌-◌}
use mathlib.Core.Path.{◌≡◌}
use lib.ListN.{length}
use Rattle.rules.specs.Text.{read_text}
use Rattle.reader.proofs.WholeLaws.{Going}
use Rattle.reader.proofs.lines_from.Given as goal

abbrev pub invariant-loop-i : goal.invariant-loop-i
invariant-loop-i l =
    (length l.table ≡ length l.initial.table) × (l.condition ≡ l.initial.condition) × Going l.text l.table l.lines l.all l.reached.length l.reached.rows l.reached.at (l.lines - l.i) (read_text l.text)
