-- Places in a text. Assumes nothing.
--     part        the bytes from one place up to another
--     Between     a place at or behind another
--     Content     the place where the next token stands
use Rattle.std.specs.Prelude.{ℕ, ◌-◌, ◌≤◌, List, Bool, ◌≡◌, length, take, drop}
use Rattle.rules.specs.Token.{is_blank, is_letter, is_symbol, content}
use Rattle.token.specs.declared.Kind.{Kind}
use Rattle.token.specs.declared.Kind.TheVariants.{Blank, Letter, Symbol}

-- none where the second place is no further
abbrev pub part : ℕ → ℕ → List ℕ → List ℕ
part from to text = take (to - from) (drop from text)

abbrev pub is_of : Kind → ℕ → Bool
is_of Blank b = is_blank b
is_of Letter b = is_letter b
is_of Symbol b = is_symbol b

-- not before the first place, nor past the text's end unless that is
pub record Between (text : List ℕ) (at r : ℕ) : Type 0 where
  pub further : at ≤ r
  pub within : at ≤ length text → r ≤ length text
  pub past : length text ≤ at → r ≡ at

pub record Content (text : List ℕ) (at lines r : ℕ) : Type 0 where
  pub left : drop r text ≡ content lines (drop at text)
  pub between : Between text at r
