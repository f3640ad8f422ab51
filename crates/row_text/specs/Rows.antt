-- A row as it stands in a text, without the blanks before it and the line's end. Assumes nothing.
--     row_words     a row's words
--     row_said      those of a thread's row
use Rattle.std.specs.Prelude.{ℕ, ◌+◌, List, [], cond, ltb, leb, length, get_or}
use Rattle.rules.specs.Table.{Row, row_at, shape_of, max_threads}
use Rattle.rules.specs.Form.{forms}
use Rattle.rules.specs.Writer.{form_in, form_shown, fields_of, row_shown}

-- nothing where the row's line passes 256 bytes, which is a line of output
unfoldable pub row_words : Row → List ℕ
row_words r = cond (leb (length (row_shown r)) 256) (form_shown (form_in r.opcode r.kind forms).words (fields_of r)) []

-- this row of a thread, by the header's counts; nothing for a thread that no table has
unfoldable pub row_said : List ℕ → ℕ → ℕ → List ℕ
row_said table thread row =
    cond (ltb thread max_threads)
    (row_words (row_at table (get_or (shape_of table) 1 0 + get_or (shape_of table) 12 0) (get_or (shape_of table) (7 + thread) 0 + row)))
    []
