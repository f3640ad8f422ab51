-- Which records of a buffer are looked at. Assumes nothing.
--     records_of            how many it has
--     HasRoom               whether there is room for one more
--     Present, Through     the first so many of them; those up to a point and with it
--     HasKind              whether there is one of a kind at a position
use Rattle.std.specs.Prelude.{ℕ, ◌+◌, ◌*◌, ◌/◌, ◌≤◌, List, Bool, true, cond, ◌&&◌, ◌≡◌, ltb, leb, eqb, length, Result, OnOk, IfErr}
use Rattle.path.specs.declared.NotAdded.{NotAdded}
use Rattle.path.specs.declared.NotAdded.TheVariants.{Full}
use Rattle.record.specs.Fields.{record_byte}

abbrev pub records_of : List ℕ → ℕ
records_of path = length path / 16

pub record HasRoom (path : List ℕ) (len : ℕ) (r : Result Unit NotAdded) : Type 0 where
  pub there : OnOk r (16 * len + 16 ≤ length path)
  pub full : IfErr r (λ why. (why ≡ Full) × (records_of path ≤ len))

pub record Present (path : List ℕ) (len r : ℕ) : Type 0 where
  pub few : r ≤ len
  pub fits : 16 * r ≤ length path
  pub is : r ≡ cond (ltb (records_of path) len) (records_of path) len

pub record Through (path : List ℕ) (point r : ℕ) : Type 0 where
  pub few : r ≤ point + 1
  pub fits : 16 * r ≤ length path
  pub is : r ≡ cond (leb (records_of path) point) (records_of path) (point + 1)

pub record HasKind (path : List ℕ) (pos kind : ℕ) (r : Bool) : Type 0 where
  pub fits : r ≡ true → 16 * pos + 16 ≤ length path
  pub is : r ≡ ltb pos (records_of path) && eqb (record_byte path pos 0) kind
