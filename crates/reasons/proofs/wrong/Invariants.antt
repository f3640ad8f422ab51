use Prim.Native.Nat.{ℕ, ◌+◌, ◌<◌}
use mathlib.Core.Bool.{true}
use mathlib.Core.Path.{◌≡◌}
use Rattle.decode.specs.Ops.{row_meant, room_meant}
use Rattle.reasons.specs.Wrong.{is_fit}
use Rattle.reasons.proofs.wrong.Given as goal

abbrev pub invariant-loop-n : goal.invariant-loop-n
invariant-loop-n l = (k : ℕ) → k < l.n → is_fit (room_meant l.room) (row_meant l.row) (k + 1) ≡ true
