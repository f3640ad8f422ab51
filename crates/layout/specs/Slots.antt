-- The slots of a cell by how many stores there were, as the functions answer them: which is next, which is newest, how many are
-- live, which is the k-th oldest. Assumes nothing.
use Rattle.std.specs.Prelude.{ℕ, ◌≤◌, ◌<◌, ◌≡◌}
use Rattle.rules.specs.Cell as rules

pub record Next (count r : ℕ) : Type 0 where
  pub is : r ≡ rules.slot_of count
  pub within : r < 7

pub record Newest (count r : ℕ) : Type 0 where
  pub is : r ≡ rules.newest count
  pub within : r < 7

pub record Live (count r : ℕ) : Type 0 where
  pub is : r ≡ rules.live_stores count
  pub within : r ≤ 7

pub record Oldest (count k r : ℕ) : Type 0 where
  pub is : r ≡ rules.kth_oldest count k
  pub within : r < 7
