-- Programs and final conditions as text: document 02, §3, by the rules of docs/GRAMMAR.md. Assumes nothing.
--     claimed             the final condition: a byte for each sign and word, eleven for a comparison
--     line_of, lines_from   a line, and all lines
--     read_text            a whole text: its table and condition, or what is left of it at the place where it is refused
--     read_into            the same with line and column, and what is left in two buffers
use Rattle.std.specs.Prelude.{ℕ, zero, suc, ◌+◌, ◌-◌, ◌*◌, ◌/◌, ◌%◌, List, [], ◌∷◌, ◌++◌, map, Bool, true, false, cond, not, ◌&&◌, ◌||◌, ltb, leb, eqb, length, get_or, set, take, replicate}
use Prim.Native.String.{String}
use Rattle.rules.specs.Vector.{equal}
use Rattle.rules.specs.Table.{max_threads, max_cells, max_plains, max_values, max_rows, all_rows, size_of}
use Rattle.rules.specs.Event.{little}
use Rattle.rules.specs.Condition.{bad, read, condition_at, is_sign, groups_deep, condition_bytes}
use Rattle.rules.specs.Token.{bytes_of, line_feed, is_between, is_empty, ends_line, past_blanks, token, past_token, next_line, content, Found, nothing, found, found_if, only, number_in, place_in}
use Rattle.rules.specs.Form.{Followed, stuck, fits, row_in, fields_as_bytes}

-- The final condition

-- the signs and words of a condition; each is a byte, the first is 1
abbrev pub symbols : List (List ℕ)
symbols = map bytes_of ("=" ∷ "!=" ∷ "<" ∷ "<=" ∷ ">" ∷ ">=" ∷ "(" ∷ ")" ∷ "and" ∷ "or" ∷ [])

abbrev pub symbol_in : List ℕ → Found
symbol_in word = place_in 1 word symbols

-- `THREAD.rREGISTER`: 4 times the thread, and the register
unfoldable pub thread_register_in : List ℕ → Found
thread_register_in bs =
    found_if
    (eqb (length bs) 4 && is_between 48 52 (get_or bs 0 0) && eqb (get_or bs 1 0) 46 && eqb (get_or bs 2 0) 114 && is_between 48 51 (get_or bs 3 0))
    (4 * (get_or bs 0 0 - 48) + (get_or bs 3 0 - 48))

-- what stands here: bytes of the condition, with what follows; a comparison that breaks off, filled up, with the place where; or
-- nothing that a condition has
pub data Unit : Type 0 where
  none : Unit
  unit : List ℕ → List ℕ → Unit
  broken : List ℕ → List ℕ → Unit

abbrev pub comparison_of : ℕ → ℕ → ℕ → List ℕ
comparison_of sign at n = sign ∷ (at / 4) ∷ (at % 4) ∷ little 8 n

module _ (lines : ℕ) where
  -- behind `THREAD.rREGISTER SIGN`
  abbrev pub number_behind : ℕ → ℕ → List ℕ → Unit
  number_behind at sign bs =
      elim (number_in (token (content lines bs))) [
        | nothing ↦ broken (comparison_of 1 at 0) (content lines bs)
        | found n ↦ unit (comparison_of sign at n) (past_token (content lines bs))
      ]

  -- behind `THREAD.rREGISTER`
  abbrev pub sign_behind : ℕ → List ℕ → Unit
  sign_behind at bs =
      elim (only is_sign (symbol_in (token (content lines bs)))) [
        | nothing ↦ broken (comparison_of 1 at 0) (content lines bs)
        | found sign ↦ number_behind at sign (past_token (content lines bs))
      ]

  unfoldable pub unit_at : List ℕ → Unit
  unit_at bs =
      elim (thread_register_in (token bs)) [
        | found at ↦ sign_behind at (past_token bs)
        | nothing ↦
            elim (only (λ (b : ℕ). not (is_sign b)) (symbol_in (token bs))) [
              | nothing ↦ none
              | found b ↦ unit (b ∷ []) (past_token bs)
            ]
      ]

  -- what was read of a condition, where that ended, and whether all of the text was read
  pub record Claimed : Type 0 where
    pub made : List ℕ
    pub rest : List ℕ
    pub whole : Bool

  abbrev pub claimed_to : List ℕ → List ℕ → Bool → Claimed
  claimed_to made rest whole = record { made = made; rest = rest; whole = whole }

  -- the bytes of a condition up to the `stop`th, at most n units more
  unfoldable pub claimed : ℕ → ℕ → List ℕ → List ℕ → Claimed
  claimed zero stop made bs = claimed_to made (content lines bs) false
  claimed (suc n) stop made bs =
      elim (leb stop (length made) || is_empty (content lines bs)) [
        | true ↦ claimed_to made (content lines bs) (is_empty (content lines bs))
        | false ↦
            elim (unit_at (content lines bs)) [
              | none ↦ claimed_to made (content lines bs) false
              | broken bytes rest ↦ claimed_to (made ++ bytes) rest false
              | unit bytes rest ↦
                  elim (leb (length made + length bytes) condition_bytes) [
                    | true ↦ claimed n stop (made ++ bytes) rest
                    | false ↦ claimed_to made (content lines bs) false
                  ]
            ]
      ]

-- The whole text

-- what was read of a program: cells, plain cells, threads, five row counts, and the bytes behind the header
pub record Draft : Type 0 where
  pub cells : ℕ
  pub plains : ℕ
  pub threads : ℕ
  pub counts : List ℕ
  pub body : List ℕ

abbrev pub nothing_made : Draft
nothing_made = record { cells = 0; plains = 0; threads = 0; counts = replicate max_threads 0; body = [] }

-- one cell more, one plain cell more, one thread more, one row more
abbrev pub with_cell : Draft → ℕ → Draft
with_cell m v = record {
  cells = m.cells + 1;
  plains = m.plains;
  threads = m.threads;
  counts = m.counts;
  body = m.body ++ little 8 v;
}

abbrev pub with_plain : Draft → ℕ → Draft
with_plain m v = record {
  cells = m.cells;
  plains = m.plains + 1;
  threads = m.threads;
  counts = m.counts;
  body = m.body ++ little 8 v;
}

abbrev pub with_thread : Draft → Draft
with_thread m = record {
  cells = m.cells;
  plains = m.plains;
  threads = m.threads + 1;
  counts = m.counts;
  body = m.body;
}

-- the rows so far of the thread that was begun last
abbrev pub rows_so_far : Draft → ℕ
rows_so_far m = get_or m.counts (m.threads - 1) 0

abbrev pub with_row : Draft → List ℕ → Draft
with_row m fields = record {
  cells = m.cells;
  plains = m.plains;
  threads = m.threads;
  counts = set m.counts (m.threads - 1) (rows_so_far m + 1);
  body = m.body ++ fields_as_bytes fields;
}

-- "Header of 8 bytes: threads .., cells .., five row counts ..", and the plain-cell count
abbrev pub table_of : Draft → List ℕ
table_of m = m.threads ∷ m.cells ∷ (m.counts ++ (m.plains ∷ m.body))

-- The first word of a line says what it is
abbrev pub says : String → List ℕ → Bool
says word bs = equal (token (past_blanks bs)) (bytes_of word)

-- a line with no token
abbrev pub is_bare : List ℕ → Bool
is_bare bs = ends_line (past_blanks bs)

-- the rows from here on up to the next thread, to the condition or to the end, by the first word of each line; n lines at most
unfoldable pub rows_ahead : ℕ → List ℕ → ℕ
rows_ahead zero bs = 0
rows_ahead (suc n) bs =
    elim (is_empty (past_blanks bs) || says "thread" bs || says "finally" bs) [
      | true ↦ 0
      | false ↦ cond (is_bare bs) 0 1 + rows_ahead n (next_line (past_blanks bs))
    ]

-- the threads from here on
unfoldable pub threads_ahead : ℕ → List ℕ → ℕ
threads_ahead zero bs = 0
threads_ahead (suc n) bs =
    elim (is_empty (past_blanks bs) || says "finally" bs) [
      | true ↦ 0
      | false ↦ cond (says "thread" bs) 1 0 + threads_ahead n (next_line (past_blanks bs))
    ]

-- how a line comes out: the next one follows, in a thread of so many rows; it is refused; the text ends; the condition follows
pub data Line : Type 0 where
  goes_on : ℕ → Draft → List ℕ → Line
  refused_line : List ℕ → Line
  ended : Draft → Line
  concludes : Draft → List ℕ → Line

-- nothing else may stand in the line
abbrev pub bare_then : ℕ → Draft → List ℕ → Line
bare_then rows m bs = cond (is_bare bs) (goes_on rows m (next_line (past_blanks bs))) (refused_line (past_blanks bs))

-- start values, of cells or of plain cells, one at least: each is one more, and n more may come
unfoldable pub values_line : (Draft → ℕ → Draft) → (Draft → ℕ) → ℕ → Draft → List ℕ → Line
values_line more many zero m bs = bare_then 0 m bs
values_line more many (suc n) m bs =
    elim (number_in (token (past_blanks bs))) [
      | found v ↦ values_line more many n (more m v) (past_token (past_blanks bs))
      | nothing ↦ cond (leb 1 (many m)) (bare_then 0 m bs) (refused_line (past_blanks bs))
    ]

-- the first line that says anything: `cells` and one to four start values
abbrev pub first_line : Draft → List ℕ → Line
first_line m bs =
    cond (says "cells" bs)
    (values_line with_cell (λ (made : Draft). made.cells) max_cells m (past_token (past_blanks bs)))
    (refused_line (past_blanks bs))

-- `plain` and one to four start values: behind the cells, ahead of the threads, once
abbrev pub is_plain_line : Draft → List ℕ → Bool
is_plain_line m bs = eqb m.threads 0 && eqb m.plains 0 && says "plain" bs

abbrev pub plain_line : Draft → List ℕ → Line
plain_line m bs = values_line with_plain (λ (made : Draft). made.plains) max_plains m (past_token (past_blanks bs))

abbrev pub row_line : ℕ → Draft → Followed → Line
row_line rows m (stuck rest) = refused_line rest
row_line rows m (fits fields rest) = goes_on rows (with_row m fields) rest

-- a row, in a text of so many threads: only in a thread, and no more than a thread may have
abbrev pub aRow : ℕ → ℕ → Draft → List ℕ → Line
aRow all rows m bs =
    cond (leb 1 m.threads && ltb (rows_so_far m) max_rows)
    (row_line rows m (row_in (record { threads = all; cells = m.cells; plains = m.plains; rows = rows; row = rows_so_far m }) bs))
    (refused_line (past_blanks bs))

-- `thread`, and its rows
abbrev pub aThread : ℕ → Draft → List ℕ → Line
aThread lines m bs =
    cond (ltb m.threads max_threads)
    (bare_then (rows_ahead lines (next_line (past_blanks bs))) (with_thread m) (past_token (past_blanks bs)))
    (refused_line (past_blanks bs))

-- `finally`, once there is a thread
abbrev pub the_condition : Draft → List ℕ → Line
the_condition m bs = cond (leb 1 m.threads) (concludes m (past_token (past_blanks bs))) (refused_line (past_blanks bs))

abbrev pub the_end : Draft → List ℕ → Line
the_end m bs = cond (leb 1 m.threads) (ended m) (refused_line (past_blanks bs))

-- one line of a text of so many lines at most and so many threads, in a thread of so many rows
unfoldable pub line_of : ℕ → ℕ → ℕ → Draft → List ℕ → Line
line_of lines all rows m bs =
    cond (is_empty (past_blanks bs)) (the_end m bs)
    (cond (is_bare bs) (goes_on rows m (next_line (past_blanks bs)))
    (cond (eqb m.cells 0) (first_line m bs)
    (cond (is_plain_line m bs) (plain_line m bs)
    (cond (says "thread" bs) (aThread lines m bs)
    (cond (says "finally" bs) (the_condition m bs)
    (aRow all rows m bs))))))

pub data TextRead : Type 0 where
  refused_at : List ℕ → TextRead
  accepted : (table condition : List ℕ) → TextRead

-- the condition's bytes are read, then judged: it is refused where its first byte stands that cannot stand there
abbrev pub concluded : ℕ → Draft → List ℕ → TextRead
concluded lines m bs =
    elim (condition_at m.threads (λ t r. 0) groups_deep (claimed lines lines (condition_bytes + 1) [] bs).made) [
      | bad rest ↦ refused_at (claimed lines lines (length (claimed lines lines (condition_bytes + 1) [] bs).made - length rest) [] bs).rest
      | read v rest ↦
          elim (is_empty rest && (claimed lines lines (condition_bytes + 1) [] bs).whole) [
            | true ↦ accepted (table_of m) (claimed lines lines (condition_bytes + 1) [] bs).made
            | false ↦ refused_at (claimed lines lines (length (claimed lines lines (condition_bytes + 1) [] bs).made - length rest) [] bs).rest
          ]
    ]

-- the lines from here on, n at most
unfoldable pub lines_from : ℕ → ℕ → ℕ → ℕ → Draft → List ℕ → TextRead
lines_from zero lines all rows m bs = refused_at bs
lines_from (suc n) lines all rows m bs =
    elim (line_of lines all rows m bs) [
      | goes_on more made rest ↦ lines_from n lines all more made rest
      | refused_line rest ↦ refused_at rest
      | ended made ↦ accepted (table_of made) []
      | concludes made rest ↦ concluded lines made rest
    ]

-- no text has more lines or units than this: each takes a byte at least
abbrev pub lines_in : List ℕ → ℕ
lines_in text = length text + 1

unfoldable pub read_text : List ℕ → TextRead
read_text text = lines_from (lines_in text) (lines_in text) (threads_ahead (lines_in text) text) 0 nothing_made text

-- Lines and columns, both from 1, the column in bytes
pub record Place : Type 0 where
  pub line : ℕ
  pub column : ℕ

-- the place behind these bytes
unfoldable pub place_behind : ℕ → ℕ → List ℕ → Place
place_behind line column [] = record { line = line; column = column }
place_behind line column (b ∷ bs) =
    elim (eqb b line_feed) [ true ↦ place_behind (line + 1) 1 bs | false ↦ place_behind line (column + 1) bs ]

-- the place of what is left of a text
abbrev pub place_of : List ℕ → List ℕ → Place
place_of text rest = place_behind 1 1 (take (length text - length rest) text)

-- the bytes of the largest table
abbrev pub table_bytes : ℕ
table_bytes = size_of max_values all_rows

-- what a text's reader answers, and what it leaves in the two buffers that it is lent
pub data TextAnswer : Type 0 where
  no_room : TextAnswer
  refused : ℕ → ℕ → TextAnswer
  taken : ℕ → ℕ → TextAnswer

pub record ReadInto : Type 0 where
  pub answer : TextAnswer
  pub table : List ℕ
  pub condition : List ℕ

-- bytes past the last are zero
abbrev pub filled : ℕ → List ℕ → List ℕ
filled n bs = bs ++ replicate (n - length bs) 0

unfoldable pub read_into : List ℕ → List ℕ → List ℕ → ReadInto
read_into text table condition =
    elim (leb table_bytes (length table) && leb condition_bytes (length condition)) [
      | false ↦ record { answer = no_room; table = table; condition = condition }
      | true ↦
          elim (read_text text) [
            | refused_at rest ↦ record {
              answer = refused (place_of text rest).line (place_of text rest).column;
              table = filled (length table) [];
              condition = filled (length condition) [];
            }
            | accepted t c ↦ record {
              answer = taken (length t) (length c);
              table = filled (length table) t;
              condition = filled (length condition) c;
            }
          ]
    ]
