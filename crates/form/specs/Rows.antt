-- What the rows of this crate stand for in the definition. Assumes nothing.
--     followed_of    what the definition says of a line
--     followed_to    where the next line is, or the token that no form has
--     FollowsForm    a line that was followed by one form, or by all
use Rattle.std.specs.Prelude.{ℕ, List, ◌≡◌, drop, Result, Ok, Err}
use Rattle.rules.specs.Form as rules
use Rattle.token.specs.Places.{Between}
use Rattle.form.specs.declared.RowRead.{RowRead}

abbrev pub followed_of : List ℕ → Result RowRead ℕ → rules.Followed
followed_of text (Ok row) = rules.fits row.fields (drop row.at text)
followed_of text (Err at) = rules.stuck (drop at text)

-- the place of the next line, or of the token that no form has
abbrev pub followed_to : Result RowRead ℕ → ℕ
followed_to (Ok row) = row.at
followed_to (Err at) = at

pub record FollowsForm (text : List ℕ) (at : ℕ) (followed : rules.Followed) (r : Result RowRead ℕ) : Type 0 where
  pub said : followed_of text r ≡ followed
  pub between : Between text at (followed_to r)
