-- A line of a text around a place, and a caret below it. Assumes nothing.
--     begin_of             where a line begins
--     rows_before          how many rows its thread has before it
--     shown_length         how long it is without its end
--     place_from           the place of a column
--     token_before         the last token before a place
--     line_shown           the line, or what is shown of a long one
--     caret_shown          the caret below it
--     excerpt_at           a line and the place of a column in it
--     refused_shown        that a text is refused, where, and why
use Rattle.std.specs.Prelude.{ℕ, zero, suc, ◌+◌, ◌-◌, List, [], ◌∷◌, ◌++◌, map, Bool, true, false, cond, ◌&&◌, ◌||◌, ltb, leb, eqb, length, get_or, drop}
use Rattle.rules.specs.Vector.{equal}
use Rattle.rules.specs.Token.{line_feed, is_blank, run_length, past_blanks, token, token_length, ends_line, line_length, next_line, bytes_of}
use Rattle.token.specs.Places.{part}
use Rattle.saying.specs.Sayings.{place_shown, what_shown}
use Rattle.excerpt.specs.declared.Excerpt.{Excerpt}

-- behind so many lines
unfoldable pub behind_lines : ℕ → List ℕ → ℕ
behind_lines zero bs = 0
behind_lines (suc n) bs = line_length bs + behind_lines n (next_line bs)

-- lines count from 1
abbrev pub begin_of : ℕ → List ℕ → ℕ
begin_of line text = behind_lines (line - 1) text

-- with one line more: each with a token is a row, and `thread` begins anew
abbrev pub with_line : ℕ → List ℕ → ℕ
with_line rows bs = cond (ends_line (past_blanks bs)) rows (cond (equal (token (past_blanks bs)) (bytes_of "thread")) 0 (rows + 1))

-- behind so many lines, with the rows so far
unfoldable pub rows_behind : ℕ → ℕ → List ℕ → ℕ
rows_behind zero rows bs = rows
rows_behind (suc n) rows bs = rows_behind n (with_line rows bs) (next_line bs)

-- before a line: a row's own number
abbrev pub rows_before : ℕ → List ℕ → ℕ
rows_before line text = rows_behind (line - 1) 0 text

-- a line ends at a line feed, or at a carriage return with a line feed behind it
unfoldable pub feeds : List ℕ → Bool
feeds [] = false
feeds (b ∷ bs) = eqb b line_feed || (eqb b 13 && eqb (get_or bs 0 0) line_feed)

-- what the line still has before that, comments too
unfoldable pub shown_length : List ℕ → ℕ
shown_length [] = 0
shown_length (b ∷ bs) = cond (feeds (b ∷ bs)) 0 (suc (shown_length bs))

-- columns count from 1; the line's end where it has fewer
abbrev pub place_from : ℕ → ℕ → ℕ → ℕ
place_from begin end column = cond (leb column (end - begin)) (begin + (column - 1)) end

-- the place past blanks
abbrev pub past_blanks_from : List ℕ → ℕ → ℕ
past_blanks_from text from = from + run_length is_blank (drop from text)

-- the last token that begins before a place, of those from here on, n at most; the one found so far, where none is left
unfoldable pub token_before : List ℕ → ℕ → ℕ → ℕ → ℕ → ℕ
token_before text place zero found from = found
token_before text place (suc n) found from =
    cond (leb place (past_blanks_from text from)) found
    (token_before text place n (past_blanks_from text from) (past_blanks_from text from + token_length (drop (past_blanks_from text from) text)))

-- at most 100 bytes before a place, and 200 in all
abbrev pub first_shown : ℕ → ℕ → ℕ
first_shown begin place = cond (leb begin (place - 100)) (place - 100) begin

abbrev pub last_shown : ℕ → ℕ → ℕ
last_shown from end = cond (leb (end - from) 200) end (from + 200)

-- a tab stays one, also below a tab; below any other byte is a blank; what would steer a terminal is '?'
abbrev pub seen_as : Bool → ℕ → ℕ
seen_as below b = cond (eqb b 9) 9 (cond below 32 (cond (ltb b 32 || eqb b 127) 63 b))

-- three such bytes, where the first place is before the second
abbrev pub dots : ℕ → ℕ → ℕ → List ℕ
dots from to b = cond (ltb from to) (b ∷ b ∷ b ∷ []) []

abbrev pub line_shown : List ℕ → ℕ → ℕ → ℕ → List ℕ
line_shown text begin place end =
    bytes_of "  "
    ++ (dots begin (first_shown begin place) 46
    ++ (map (seen_as false) (part (first_shown begin place) (last_shown (first_shown begin place) end) text)
    ++ (dots (last_shown (first_shown begin place) end) end 46
    ++ (line_feed ∷ []))))

abbrev pub caret_shown : List ℕ → ℕ → ℕ → List ℕ
caret_shown text begin place =
    bytes_of "  "
    ++ (dots begin (first_shown begin place) 32
    ++ (map (seen_as true) (part (first_shown begin place) place text)
    ++ (bytes_of "^" ++ (line_feed ∷ []))))

-- the sentence, the line between two places, and the caret
abbrev pub refused_in : List ℕ → List ℕ → ℕ → ℕ → ℕ → ℕ → ℕ → List ℕ
refused_in name text line column begin end place =
    place_shown name line column
    ++ (what_shown text (rows_before line text) begin (token_before text place (length text) begin begin) place
    ++ (line_shown text begin place end
    ++ caret_shown text begin place))

abbrev pub end_of : ℕ → List ℕ → ℕ
end_of line text = begin_of line text + shown_length (drop (begin_of line text) text)

abbrev pub excerpt_at : List ℕ → ℕ → ℕ → Excerpt
excerpt_at text line column =
    record { begin = begin_of line text; place = place_from (begin_of line text) (end_of line text) column; end = end_of line text }

-- at a line and column, with the file's name
abbrev pub refused_shown : List ℕ → List ℕ → ℕ → ℕ → List ℕ
refused_shown name text line column =
    refused_in name text line column (begin_of line text) (end_of line text) (place_from (begin_of line text) (end_of line text) column)
