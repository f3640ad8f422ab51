-- What was found, where a `match` has taken the answer apart. Assumes nothing.
--     place-below          a record's place is below the position
--     none_of, some_of     which thread it is
use Prim.Native.Nat.{ℕ, ◌<◌}
use mathlib.Core.Path.{◌≡◌, refl}
use Rattle.std.specs.Prelude.{Option, Some, None}
use Rattle.rules.specs.Vector.{Whom, nobody, thread}
use Rattle.record.specs.Places.{FoundBelow, found_as}

pub place-below : {n : ℕ} {f : Option ℕ} {p : ℕ} → f ≡ Some p → FoundBelow n f → p < n
place-below e h = rw e at h

pub none_of : (w : Whom) → None ≡ found_as w → w ≡ nobody
none_of nobody h = refl
none_of (thread t) h = cc

pub some_of : (w : Whom) (t : ℕ) → Some t ≡ found_as w → w ≡ thread t
some_of nobody t h = cc
some_of (thread u) t h = cc
