use Prim.Native.Nat.{◌+◌, ◌-◌}
use mathlib.Core.Path.{◌≡◌}
use lib.ListN.{drop}
use Rattle.excerpt.specs.Excerpts.{behind_lines}
use Rattle.excerpt.proofs.line_begin.Given as goal

abbrev pub invariant-loop-passed : goal.invariant-loop-passed
invariant-loop-passed l = l.at + behind_lines (l.line - l._passed) (drop l.at l.text) ≡ behind_lines (l.line - 1) l.text
