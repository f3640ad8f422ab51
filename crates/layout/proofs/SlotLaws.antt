-- The laws of a cell's slots, for the functions that count them. Assumes nothing.
--     live-few, live_all              how many stores are live
--     oldest-few, oldest-all          the slot of the k-th store, counted from the oldest
use Prim.Native.Nat.{ℕ, ◌+◌, ◌≤◌, ◌<◌, ◌%◌}
use native.Mathlib.Omega.{arith}
use borrow.Author.Tests.{lt-ltb, le-ltb}
use Rattle.layout.specs.Slots.{Live, Oldest}

pub live-few : (n : ℕ) → n < 7 → Live n n
live-few n h = record { is = rw (lt-ltb n 7 h); within = omega arith }

pub live_all : (n : ℕ) → 7 ≤ n → Live n 7
live_all n h = record { is = rw (le-ltb n 7 h); within = omega arith }

module _ (n k : ℕ) (within : k < 7) where
  pub oldest-few : n < 7 → Oldest n k k
  oldest-few h = record { is = rw (lt-ltb n 7 h); within = within }

  pub oldest-all : 7 ≤ n → Oldest n k ((n % 7 + k) % 7)
  oldest-all h = record { is = rw (le-ltb n 7 h); within = omega arith }
