-- What is said of a text that is refused at a line and column. Assumes nothing.
--     place_shown          the file, the line and the column
--     reason              why a token cannot stand where it does
--     what_shown           what stands there, and why it cannot
use Rattle.std.specs.Prelude.{ℕ, List, [], ◌++◌, Bool, cond, ◌&&◌, ◌||◌, leb, eqb, length, get_or, drop}
use Prim.Native.String.{String}
use Rattle.rules.specs.Vector.{equal}
use Rattle.rules.specs.Token.{Found, nothing, found, bytes_of, is_between, is_empty, past_blanks, token, ends_line, number_in, plain_in}
use Rattle.rules.specs.Writer.{shown}

-- a file's name comes first, where there is one
abbrev pub name_shown : List ℕ → List ℕ
name_shown name = cond (is_empty name) [] (name ++ bytes_of ": ")

abbrev pub place_shown : List ℕ → ℕ → ℕ → List ℕ
place_shown name line column =
    bytes_of "answer 5: refused: "
    ++ (name_shown name
    ++ (bytes_of "line "
    ++ (shown line
    ++ (bytes_of ", column "
    ++ (shown column
    ++ bytes_of ": ")))))

-- Why a token cannot stand there

abbrev pub spells : List ℕ → String → Bool
spells word s = equal word (bytes_of s)

-- a plain cell stands behind `read`, and behind `to` in a line that begins with `write`
abbrev pub names_plain : List ℕ → List ℕ → Bool
names_plain first before = spells before "read" || (spells first "write" && spells before "to")

-- behind those
abbrev pub why_no_plain : Found → String
why_no_plain nothing = ": a plain cell is p0 to p3"
why_no_plain (found p) = ": there is no such plain cell"

-- a jump leads to a row of its thread, but not to its own
abbrev pub why_no_row : ℕ → ℕ → String
why_no_row row target = cond (eqb target row) ": a jump to its own row never ends" ": its thread has no such row"

-- a cell stands behind these words
abbrev pub names_cell : List ℕ → Bool
names_cell before = spells before "load" || spells before "unsync_load" || spells before "to" || spells before "on"

-- by the row's number and the word before; only of a number
abbrev pub why_no_number : ℕ → List ℕ → Found → String
why_no_number row before nothing = ""
why_no_number row before (found value) =
    cond (spells before "jump") (why_no_row row value)
    (cond (spells before "join") ": there is no such thread"
    (cond (names_cell before) ": there is no such cell"
    ""))

-- of a word, by the row's number, the first word of its line and the one before
abbrev pub reason : ℕ → List ℕ → List ℕ → List ℕ → String
reason row first before word = cond (names_plain first before) (why_no_plain (plain_in word)) (why_no_number row before (number_in word))

-- What stands there

-- short, and no byte that would steer a terminal, or a part of a letter
abbrev pub is_clear : List ℕ → Bool
is_clear word = leb 1 (length word) && leb (length word) 40 && is_between 32 126 (get_or word 0 0)

abbrev pub token_shown : List ℕ → String → List ℕ
token_shown word s = bytes_of "`" ++ (word ++ (bytes_of "` cannot stand here" ++ (bytes_of s ++ bytes_of "\n")))

-- at a place of the line that begins there, with the last token before
abbrev pub what_shown : List ℕ → ℕ → ℕ → ℕ → ℕ → List ℕ
what_shown text row begin before at =
    cond (ends_line (drop at text)) (bytes_of "something is missing here\n")
    (cond (is_clear (token (drop at text)))
    (token_shown (token (drop at text)) (reason row (token (past_blanks (drop begin text))) (token (drop before text)) (token (drop at text))))
    (bytes_of "this cannot stand here\n"))
