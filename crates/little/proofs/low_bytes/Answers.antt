use Prim.Native.Nat.{ℕ, ◌/◌, ◌%◌}
use native.Mathlib.Omega.{arith}
use mathlib.Core.Path.{◌≡◌, ◌∙◌}
use Rattle.std.specs.Int.{w64, to_le_bytes}
use Rattle.rules.specs.Event.{little}
use Rattle.little.proofs.low_bytes.Goals as goal

two : (v : ℕ) → v / 65536 % 256 ≡ v / 256 / 256 % 256
two v = omega arith

three : (v : ℕ) → v / 16777216 % 256 ≡ v / 256 / 256 / 256 % 256
three v = omega arith

four : (v : ℕ) → v / 4294967296 % 256 ≡ v / 256 / 256 / 256 / 256 % 256
four v = omega arith

five : (v : ℕ) → v / 1099511627776 % 256 ≡ v / 256 / 256 / 256 / 256 / 256 % 256
five v = omega arith

six : (v : ℕ) → v / 281474976710656 % 256 ≡ v / 256 / 256 / 256 / 256 / 256 / 256 % 256
six v = omega arith

seven : (v : ℕ) → v / 72057594037927936 % 256 ≡ v / 256 / 256 / 256 / 256 / 256 / 256 / 256 % 256
seven v = omega arith

-- the library's bytes are the definition's
low : (v : ℕ) → to_le_bytes w64 v ≡ little 8 v
unfolding little
low v = rw (two v, three v, four v, five v, six v, seven v)

pub returns : goal.returns
returns c = c.to_le_bytes.ensures ∙ low _
