-- What becomes of a new branch, by the definition. Assumes nothing.
--     pushed_of                 the definition's answer as the function's
--     grown                    the path after it
--     Pushes, PushesThread     what a function that adds a branch promises
use Rattle.std.specs.Prelude.{ℕ, ◌+◌, ◌*◌, ◌≤◌, ◌<◌, List, [], ◌∷◌, ◌++◌, Bool, ◌≡◌, length, Result, Ok, Err}
use Rattle.rules.specs.Path as rules
use Rattle.path.specs.Answers.{PushedWithin}
use Rattle.path.specs.Holds.{Holds}
use Rattle.path.specs.Places.{records_of}
use Rattle.path.specs.declared.NotAdded.{NotAdded}
use Rattle.path.specs.declared.NotAdded.TheVariants.{Full, Preempted}

abbrev pub pushed_of : rules.Added → Result ℕ NotAdded
pushed_of (rules.added b) = Ok (rules.open_at b)
pushed_of rules.full = Err Full
pushed_of rules.preempted = Err Preempted

abbrev pub grown : List rules.Branch → rules.Added → List rules.Branch
grown bs (rules.added b) = bs ++ (b ∷ [])
grown bs rules.full = bs
grown bs rules.preempted = bs

-- As many branches can be present as the buffer has room for records.
pub record Pushes (entry exit : List ℕ) (len most : ℕ) (answer : ℕ → List rules.Branch → rules.Added) (r : Result ℕ NotAdded) : Type 0 where
  pub within : PushedWithin entry exit len most r
  pub full : length entry < 16 * len + 16 → r ≡ Err Full
  pub keeps : length exit ≡ length entry
  pub says : (bs : List rules.Branch) → Holds entry bs → length bs ≡ len → r ≡ pushed_of (answer (records_of entry) bs)
  pub holds : (bs : List rules.Branch) → Holds entry bs → length bs ≡ len → Holds exit (grown bs (answer (records_of entry) bs))

-- A schedule added. Two bytes say the position of the last one, so the path has at most as many branches as there are positions.
pub record PushesThread (entry exit : List ℕ) (len : ℕ) (exploring : Bool) (seed : List ℕ) (r : Result ℕ NotAdded) : Type 0 where
  pub within : PushedWithin entry exit len 5 r
  pub full : length entry < 16 * len + 16 → r ≡ Err Full
  pub keeps : length exit ≡ length entry
  pub says : (bs : List rules.Branch) → Holds entry bs → length bs ≡ len → r ≡ pushed_of (rules.thread_added (records_of entry) bs exploring seed)
  pub holds :
      (bs : List rules.Branch) → Holds entry bs → length bs ≡ len → len ≤ rules.positions
      → Holds exit (grown bs (rules.thread_added (records_of entry) bs exploring seed))
