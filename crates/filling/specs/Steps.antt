-- How a line comes out, in the definition. Assumes nothing.
--     Lined        how a line comes out
--     LineSteps    the same, from any table that the buffer held
--     Bare         nothing else in the line
use Rattle.std.specs.Prelude.{ℕ, List, Bool, cond, ◌&&◌, ◌≡◌, ltb, leb, eqb, get_or, drop, Result, Ok, Err}
use Rattle.rules.specs.Vector.{equal}
use Rattle.rules.specs.Table.{max_threads, max_rows}
use Rattle.rules.specs.Token.{bytes_of, next_line}
use Rattle.rules.specs.Form.{row_in}
use Rattle.rules.specs.Text as rules
use Rattle.rules.specs.Text.{Draft}
use Rattle.filling.specs.Tables.{HeldTable}
use Rattle.filling.specs.declared.Line.{Line}
use Rattle.filling.specs.declared.Line.TheVariants.{GoesOn, Ended, Concludes}

-- over a buffer that held n bytes before the line
abbrev pub Lined : List ℕ → List ℕ → ℕ → rules.Line → Result Line ℕ → Type 0
Lined text table n line (Ok (GoesOn reached)) = (m : Draft) × ((line ≡ rules.goes_on reached.rows m (drop reached.at text)) × HeldTable table reached.length m)
Lined text table n line (Err at) = line ≡ rules.refused_line (drop at text)
Lined text table n line (Ok Ended) = (m : Draft) × ((line ≡ rules.ended m) × HeldTable table n m)
Lined text table n line (Ok (Concludes at)) = (m : Draft) × ((line ≡ rules.concludes m (drop at text)) × HeldTable table n m)

pub record LineSteps (text entry exit : List ℕ) (n : ℕ) (r : Result Line ℕ) (line : Draft → rules.Line) : Type 0 where
  pub is : (m : Draft) → HeldTable entry n m → Lined text exit n (line m) r

-- nothing else in the line: over any buffer, from any table that it holds
abbrev pub Bare : List ℕ → ℕ → ℕ → ℕ → Result Line ℕ → Type 0
Bare text from rows more r = (table : List ℕ) (n : ℕ) (m : Draft) → HeldTable table more m → Lined text table n (rules.bare_then rows m (drop from text)) r

-- the line of the plain cells, by the buffer and the line's first word
abbrev pub is_plains : List ℕ → List ℕ → Bool
is_plains table word = eqb (get_or table 0 0) 0 && eqb (get_or table 7 0) 0 && equal word (bytes_of "plain")

-- `thread`, by what is left at its place and behind it
abbrev pub a_thread_at : ℕ → Draft → List ℕ → List ℕ → rules.Line
a_thread_at lines m here past =
    cond (ltb m.threads max_threads) (rules.bare_then (rules.rows_ahead lines (next_line here)) (rules.with_thread m) past) (rules.refused_line here)

-- a row, by what is left at its line and at its first token
abbrev pub a_row_at : ℕ → ℕ → Draft → List ℕ → List ℕ → rules.Line
a_row_at all rows m bs here =
    cond (leb 1 m.threads && ltb (rules.rows_so_far m) max_rows)
    (rules.row_line rows m (row_in (record { threads = all; cells = m.cells; plains = m.plains; rows = rows; row = rules.rows_so_far m }) bs))
    (rules.refused_line here)
