-- What the answers of this crate stand for in the definition. Assumes nothing.
--     LinesCounted  a count, of so many lines at most
--     PlacedAt      a line and column
use Rattle.std.specs.Prelude.{ℕ, ◌+◌, ◌≤◌, List, ◌∷◌, cond, ◌≡◌}
use Rattle.rules.specs.Vector.{equal}
use Rattle.rules.specs.Token.{bytes_of, ends_line}
use Rattle.rules.specs.Text as rules
use Rattle.token.specs.Places.{part}
use Rattle.ahead.specs.declared.Place.{Place}

pub record LinesCounted (r lines count : ℕ) : Type 0 where
  pub is : r ≡ count
  pub most : r ≤ lines

abbrev pub row_here : List ℕ → ℕ
row_here bs = cond (ends_line bs) 0 1

abbrev pub thread_here : ℕ → ℕ → List ℕ → ℕ
thread_here at to text = cond (equal (part at to text) (bytes_of "thread")) 1 0

abbrev pub place_meant : Place → rules.Place
place_meant p = record { line = p.line; column = p.column }

-- behind one byte more
pub record Behind (line column byte : ℕ) (p : Place) : Type 0 where
  pub is : (bs : List ℕ) → rules.place_behind p.line p.column bs ≡ rules.place_behind line column (byte ∷ bs)
  pub low : p.line ≤ line + 1
  pub near : p.column ≤ column + 1

-- the place of what is left of a text
abbrev pub PlacedAt : List ℕ → List ℕ → Place → Type 0
PlacedAt text rest p = place_meant p ≡ rules.place_of text rest
