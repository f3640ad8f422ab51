-- Which path a buffer of bytes holds. Assumes nothing.
--     all_shaped    each branch is one that 16 bytes can say
--     last_in       the newest of schedules, as the definition names one
--     Prevs        each schedule's prev is the position of the newest schedule before it
--     Holds        the bytes are the encoded branches, and then zeros
use Rattle.std.specs.Prelude.{ℕ, List, [], ◌∷◌, Bool, true, ◌&&◌, ◌≡◌, length, get_or}
use Rattle.rules.specs.Path.{Branch, Schedule, ScheduleAt, Placed, schedule, none, at, no_branch, written, prev_of, schedules_below}
use Rattle.record.specs.Stands.{shaped}

unfoldable pub all_shaped : List Branch → Bool
all_shaped [] = true
all_shaped (b ∷ bs) = shaped b && all_shaped bs

abbrev pub last_in : List Placed → ScheduleAt
last_in [] = none
last_in (a ∷ more) = at a.place a.schedule

abbrev pub Prevs : List Branch → Type 0
Prevs bs = (k : ℕ) (s : Schedule) → get_or bs k no_branch ≡ schedule s → s.prev ≡ prev_of (last_in (schedules_below bs k))

pub record Holds (bytes : List ℕ) (bs : List Branch) : Type 0 where
  pub shapes : all_shaped bs ≡ true
  pub prevs : Prevs bs
  pub same : bytes ≡ written (length bytes) bs
