-- The steps of an execution as text, a line each, in columns. A line begins at place 0 of its page. Assumes nothing.
--     row_of_step     the row of a step, as it stands in a text
--     width_of       the length of the longest row among the steps
--     rows_end       the column where rows of this width end
--     put_head       the names of the columns
--     put_slot       a slot or a dash
--     put_offers     the slots of a mask, as '0 2', or a dash
--     put_step       a step
--     is_shown       whether a step is shown where the execution is shortened
--     put_between    how many are not
use Rattle.std.specs.Prelude.{ℕ, zero, suc, ◌+◌, ◌-◌, ◌*◌, ◌/◌, ◌%◌, List, [], ◌∷◌, Bool, true, false, cond, ◌||◌, ltb, leb, eqb, length}
use Rattle.rules.specs.Token.{bytes_of}
use Rattle.rules.specs.Event.{Entry}
use Rattle.digits.specs.Shown.{shown}
use Rattle.page.specs.Pages.{Page, put_text, put_filled, padded, right_at}
use Rattle.steps.specs.Entries.{entry_read, entries}
use Rattle.outcome.specs.Comes.{came_of_step}
use Rattle.row_text.specs.Rows.{row_said}
use Rattle.listing.specs.Words.{put_came}

abbrev pub row_of_step : List ℕ → List ℕ → ℕ → List ℕ
row_of_step table trace i = row_said table (entry_read trace i).thread (entry_read trace i).row

-- The width

abbrev pub larger : ℕ → ℕ → ℕ
larger m n = cond (ltb m n) n m

-- the length of the longest row of the first n steps, and at least that of its heading, 'operation'
unfoldable pub widest : List ℕ → List ℕ → ℕ → ℕ
widest table trace zero = 9
widest table trace (suc n) = larger (widest table trace n) (length (row_of_step table trace n))

-- of all steps. It stays below 256 (proofs/StepLaws, width-low)
abbrev pub width_of : List ℕ → List ℕ → ℕ
width_of table trace = widest table trace (entries trace)

-- rows begin at column 19; of a width that no rows have, 256 or more, the low byte counts
abbrev pub rows_end : ℕ → ℕ
rows_end width = 19 + width % 256

-- The heading

-- a text that begins at a column
abbrev pub text_at : Page → ℕ → List ℕ → Page
text_at l column text = put_text (padded l column) text

unfoldable pub put_head : Page → ℕ → Page
put_head l width =
    text_at
    (text_at (put_text l (bytes_of "step  thread  row  operation")) (rows_end width + 2) (bytes_of "slot  offered"))
    (rows_end width + 23) (bytes_of "what came of it\n")

-- A step

-- the slot, or a dash for 255, which is none; it ends six columns behind the rows
unfoldable pub put_slot : Page → ℕ → ℕ → Page
put_slot l end slot = cond (eqb slot 255) (text_at l (end + 5) (bytes_of "-")) (right_at l (end + 6) slot)

-- "bit i for slot i": the slots of a mask, of the n from slot i on, where bit 0 is that of slot i
unfoldable pub slots_in : ℕ → ℕ → ℕ → List ℕ
slots_in mask zero i = []
slots_in mask (suc n) i =
    cond (eqb (mask % 2) 1) (i ∷ slots_in (mask / 2) n (i + 1)) (slots_in (mask / 2) n (i + 1))

-- a slot, behind a space unless it is the first
unfoldable pub put_offer : Page → Bool → ℕ → Page
put_offer l first slot = put_text (cond first l (put_text l (bytes_of " "))) (shown slot)

-- each of them; a dash where there is not even a first
unfoldable pub put_each : Page → Bool → List ℕ → Page
put_each l first [] = cond first (put_text l (bytes_of "-")) l
put_each l first (slot ∷ slots) = put_each (put_offer l first slot) false slots

-- the seven slots that a cell has
abbrev pub put_offers : Page → ℕ → Page
put_offers l mask = put_each l true (slots_in mask 7 0)

-- the step's number, which counts from 1, its thread and its row's number. Of a step past the 65536th the low 16 bits count
unfoldable pub put_numbers : Page → ℕ → Entry → Page
put_numbers l i e = right_at (right_at (right_at l 4 (i % 65536 + 1)) 12 e.thread) 17 e.row

-- its slot and the slots that it was offered
unfoldable pub put_slots : Page → ℕ → Entry → Page
put_slots l end e = put_offers (padded (put_slot l end e.slot) (end + 8)) e.mask

-- the numbers, the row, the slots, and what came of it by what was held before it
unfoldable pub put_step : Page → List ℕ → List ℕ → List ℕ → ℕ → ℕ → Page
put_step l table trace held width i =
    put_text
    (put_came
    (padded
    (put_slots (text_at (put_numbers l i (entry_read trace i)) 19 (row_of_step table trace i)) (rows_end width) (entry_read trace i))
    (rows_end width + 23))
    (came_of_step table trace held i))
    (bytes_of "\n")

-- An execution that is shortened

-- how many steps are shown at either end
abbrev pub at_end : ℕ
at_end = 10

-- whether step i is among the first of n or the last
abbrev pub is_shown : ℕ → ℕ → Bool
is_shown n i = ltb i at_end || leb (n - i) at_end

-- how many are between them; nothing where there are none
unfoldable pub put_between : Page → ℕ → Page
put_between l n =
    cond (ltb (2 * at_end) n)
    (put_filled l (bytes_of "   ..  # steps between; --all-rows shows them\n") (n - 2 * at_end) 0 0)
    l
