-- Tokens of a text, and what a word stands for: docs/GRAMMAR.md. A text is the list of its bytes, and where one is read, what is left of
-- it: the place is where that begins. Assumes nothing.
--     past_blanks, token, past_token, next_line     blanks, the next word or sign of a line, what follows, the next line
--     number_in, register_in, place_in        a word that is a number, a register, one of a list
use Rattle.std.specs.Prelude.{ℕ, zero, suc, ◌+◌, ◌-◌, ◌*◌, ◌^◌, List, [], ◌∷◌, Bool, true, false, cond, not, ◌&&◌, ◌||◌, ltb, leb, eqb, length, get_or, take, drop}
use Prim.Native.Char.{code}
use Prim.Native.String.{String, [] as []ˢ, ◌∷◌ as ◌∷ˢ◌}
use Rattle.rules.specs.Vector.{equal}

-- Bytes

-- the bytes of a word
unfoldable pub bytes_of : String → List ℕ
bytes_of []ˢ = []
bytes_of (c ∷ˢ s) = code c ∷ bytes_of s

abbrev pub line_feed : ℕ
line_feed = 10

abbrev pub space : ℕ
space = 32

-- blanks are spaces and tabs
abbrev pub is_blank : ℕ → Bool
is_blank b = eqb b space || eqb b 9

abbrev pub is_between : ℕ → ℕ → ℕ → Bool
is_between least most b = leb least b && leb b most

-- a word is a run of letters, digits, `_` and `.`
abbrev pub is_letter : ℕ → Bool
is_letter b = is_between 48 57 b || is_between 65 90 b || is_between 97 122 b || eqb b 95 || eqb b 46

-- a sign is a run of `=`, `!`, `<` and `>`
abbrev pub is_symbol : ℕ → Bool
is_symbol b = eqb b 61 || eqb b 33 || eqb b 60 || eqb b 62

-- a line ends at a line feed, or at a carriage return with a line feed behind it; a comment, from `#` on, belongs to the line's end;
-- so does the text's end
unfoldable pub ends_line : List ℕ → Bool
ends_line [] = true
ends_line (b ∷ bs) = eqb b line_feed || eqb b 35 || (eqb b 13 && eqb (get_or bs 0 0) line_feed)

-- Tokens

-- how many of the first bytes are such bytes
unfoldable pub run_length : (ℕ → Bool) → List ℕ → ℕ
run_length p [] = 0
run_length p (b ∷ bs) = cond (p b) (suc (run_length p bs)) 0

-- past blanks
abbrev pub past_blanks : List ℕ → List ℕ
past_blanks bs = drop (run_length is_blank bs) bs

-- how long the token is that stands here: none at the line's end; any other byte is a token by itself
unfoldable pub token_length : List ℕ → ℕ
token_length bs =
    cond (ends_line bs) 0
    (cond (is_letter (get_or bs 0 0)) (run_length is_letter bs)
    (cond (is_symbol (get_or bs 0 0)) (run_length is_symbol bs)
    1))

abbrev pub token : List ℕ → List ℕ
token bs = take (token_length bs) bs

abbrev pub past_token : List ℕ → List ℕ
past_token bs = drop (token_length bs) bs

-- how long this line still is, with the line feed at its end
unfoldable pub line_length : List ℕ → ℕ
line_length [] = 0
line_length (b ∷ bs) = cond (eqb b line_feed) 1 (suc (line_length bs))

abbrev pub next_line : List ℕ → List ℕ
next_line bs = drop (line_length bs) bs

abbrev pub is_empty : List ℕ → Bool
is_empty bs = eqb (length bs) 0

-- past blanks and line ends, n lines at most: where the next token stands
unfoldable pub content : ℕ → List ℕ → List ℕ
content zero bs = past_blanks bs
content (suc n) bs =
    elim (is_empty (past_blanks bs) || not (ends_line (past_blanks bs))) [ true ↦ past_blanks bs | false ↦ content n (next_line (past_blanks bs)) ]

-- What a word stands for

pub data Found : Type 0 where
  nothing : Found
  found : ℕ → Found

abbrev pub found_if : Bool → ℕ → Found
found_if true v = found v
found_if false v = nothing

abbrev pub only : (ℕ → Bool) → Found → Found
only p nothing = nothing
only p (found v) = found_if (p v) v

abbrev pub is_digit : ℕ → Bool
is_digit b = is_between 48 57 b

-- the digits behind a number
unfoldable pub digits_behind : ℕ → List ℕ → Found
digits_behind v [] = found v
digits_behind v (b ∷ bs) =
    elim (is_digit b && ltb (10 * v + (b - 48)) (2 ^ 64)) [ true ↦ digits_behind (10 * v + (b - 48)) bs | false ↦ nothing ]

-- numbers are decimal, from 0 to 2^64 − 1, without leading zeros
unfoldable pub number_in : List ℕ → Found
number_in bs =
    cond (is_empty bs || (eqb (get_or bs 0 0) 48 && not (eqb (length bs) 1))) nothing (digits_behind 0 bs)

-- a letter, and a number from 0 to 3 behind it
abbrev pub fourth : ℕ → List ℕ → Found
fourth letter bs =
    found_if (eqb (length bs) 2 && eqb (get_or bs 0 0) letter && is_between 48 51 (get_or bs 1 0)) (get_or bs 1 0 - 48)

-- r0 to r3
unfoldable pub register_in : List ℕ → Found
register_in bs = fourth 114 bs

-- p0 to p3
unfoldable pub plain_in : List ℕ → Found
plain_in bs = fourth 112 bs

-- the place of a word in a list, from place i on
unfoldable pub place_in : ℕ → List ℕ → List (List ℕ) → Found
place_in i word [] = nothing
place_in i word (w ∷ ws) = elim (equal word w) [ true ↦ found i | false ↦ place_in (i + 1) word ws ]
