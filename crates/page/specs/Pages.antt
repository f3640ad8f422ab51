-- A page of output that grows from the left, in a buffer of 16384 bytes. Assumes nothing.
--     Page, page_of  its bytes, and where it ends
--     put_byte       a byte behind the end, where there is room for it
--     put_text       a text, byte by byte
--     put_one        a byte, or a number in its place
--     put_filled     a text in which each '#' stands for a number
--     padded        spaces up to a column
--     right_at       a number that ends at a column
use Rattle.std.specs.Prelude.{ℕ, ◌+◌, ◌-◌, List, [], ◌∷◌, cond, ltb, eqb, length, set, replicate}
use Rattle.digits.specs.Shown.{shown}

pub record Page : Type 0 where
  pub bytes : List ℕ
  pub end : ℕ

abbrev pub page_of : List ℕ → ℕ → Page
page_of bytes at = record { bytes = bytes; end = at }

-- what does not fit is left out
unfoldable pub put_byte : Page → ℕ → Page
put_byte l b = cond (ltb l.end 16384) (page_of (set l.bytes l.end b) (l.end + 1)) l

unfoldable pub put_text : Page → List ℕ → Page
put_text l [] = l
put_text l (b ∷ bs) = put_text (put_byte l b) bs

-- a byte of a text, or the number where the byte is '#', 35
abbrev pub put_one : Page → ℕ → ℕ → Page
put_one l b n = cond (eqb b 35) (put_text l (shown n)) (put_byte l b)

-- each byte so. The numbers are taken in turn; the last stands for every further '#' too
unfoldable pub put_filled : Page → List ℕ → ℕ → ℕ → ℕ → Page
put_filled l [] p q r = l
put_filled l (b ∷ bs) p q r = cond (eqb b 35) (put_filled (put_text l (shown p)) bs q r r) (put_filled (put_byte l b) bs p q r)

-- ' ' is the byte 32
abbrev pub padded : Page → ℕ → Page
padded l column = put_text l (replicate (column - l.end) 32)

abbrev pub right_at : Page → ℕ → ℕ → Page
right_at l column n = put_text (padded l (column - length (shown n))) (shown n)
