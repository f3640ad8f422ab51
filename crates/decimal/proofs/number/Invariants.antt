use mathlib.Core.Path.{◌≡◌}
use lib.ListN.{drop}
use Rattle.std.proofs.Common.{Some}
use Rattle.decimal.specs.Decimal.{with_digits, number_spelled}
use Rattle.decimal.proofs.number.Given as goal

abbrev pub invariant-loop-byte : goal.invariant-loop-byte
invariant-loop-byte l = with_digits (Some l.value) (drop l.byte-index l.text) ≡ number_spelled l.text
