-- A table and a final condition written as text: docs/GRAMMAR.md, the text that is written. Assumes nothing.
--     shown               a number in decimal
--     row_shown            a row, by its form
--     written_text         the whole text
--     written_into         the same in a buffer, or why not
use Rattle.std.specs.Prelude.{ℕ, zero, suc, ◌+◌, ◌-◌, ◌/◌, ◌%◌, List, [], ◌∷◌, ◌++◌, Bool, true, false, cond, ◌&&◌, ◌||◌, ltb, leb, eqb, length, get_or, drop}
use Rattle.rules.specs.Table.{Row, row_at, u64_at, judged, good, bad_header, bad_row, threads_of, cells_of, plains_of, values_of, counts_of, first_rows, start_value}
use Rattle.rules.specs.Condition.{is_sign, is_condition, opens, closes}
use Rattle.rules.specs.Token.{bytes_of, space, line_feed}
use Rattle.rules.specs.Form.{orders, Form, forms, field_of}
use Rattle.rules.specs.Text.{symbols, filled}

-- a number in decimal: its digits from the last on, n at most
unfoldable pub digits_of : ℕ → ℕ → List ℕ → List ℕ
digits_of zero v behind = behind
digits_of (suc n) v behind = elim (ltb v 10) [
  | true ↦ (48 + v) ∷ behind
  | false ↦ digits_of n (v / 10) ((48 + v % 10) ∷ behind)
]

-- no number below 2^64 has more than 20 digits
abbrev pub shown : ℕ → List ℕ
shown v = digits_of 20 v []

abbrev pub order_shown : ℕ → List ℕ
order_shown o = get_or orders o []

-- a letter's field as it is written
unfoldable pub letter_shown : ℕ → List ℕ → List ℕ
letter_shown b fields =
    cond (eqb b 82) (114 ∷ shown (get_or fields 5 0))
    (cond (eqb b 80) (112 ∷ shown (get_or fields 1 0))
    (cond (eqb (field_of b) 2 || eqb (field_of b) 3) (order_shown (get_or fields (field_of b) 0))
    (shown (get_or fields (field_of b) 0))))

-- the words of a form, with the fields for the letters that stand alone
unfoldable pub form_shown : List ℕ → List ℕ → List ℕ
form_shown [] fields = []
form_shown (b ∷ bs) fields = cond (ltb (field_of b) 9) (letter_shown b fields) (b ∷ []) ++ form_shown bs fields

-- the form of a row
unfoldable pub form_in : ℕ → ℕ → List Form → Form
form_in opcode kind [] = record { opcode = 255; kind = 0; words = [] }
form_in opcode kind (f ∷ fs) =
    elim (eqb f.opcode opcode && eqb f.kind kind) [ true ↦ f | false ↦ form_in opcode kind fs ]

abbrev pub fields_of : Row → List ℕ
fields_of r = r.opcode ∷ r.object ∷ r.order ∷ r.failure ∷ r.kind ∷ r.register ∷ r.target ∷ r.a ∷ r.b ∷ []

unfoldable pub row_shown : Row → List ℕ
row_shown r = space ∷ space ∷ (form_shown (form_in r.opcode r.kind forms).words (fields_of r) ++ (line_feed ∷ []))

-- n rows from this one on, by their numbers among all rows
unfoldable pub rows_shown : List ℕ → ℕ → ℕ → List ℕ
rows_shown table zero i = []
rows_shown table (suc n) i = row_shown (row_at table (values_of table) i) ++ rows_shown table n (i + 1)

unfoldable pub threads_shown : List ℕ → ℕ → ℕ → List ℕ
threads_shown table zero t = []
threads_shown table (suc n) t =
    bytes_of "thread" ++ (line_feed ∷ (rows_shown table (get_or (counts_of table) t 0) (get_or (first_rows 0 (counts_of table)) t 0) ++ threads_shown table n (t + 1)))

-- n start values from this one on
unfoldable pub values_shown : List ℕ → ℕ → ℕ → List ℕ
values_shown table zero i = []
values_shown table (suc n) i = space ∷ (shown (start_value table i) ++ values_shown table n (i + 1))

-- a line for the plain cells, where there are any
unfoldable pub plains_shown : List ℕ → List ℕ
plains_shown table =
    elim (leb 1 (plains_of table)) [
      | true ↦ bytes_of "plain" ++ (values_shown table (plains_of table) (cells_of table) ++ (line_feed ∷ []))
      | false ↦ []
    ]

-- a condition's bytes as text: a blank before each word, but not behind `(` and not before `)`
abbrev pub blank_before : Bool → ℕ → List ℕ
blank_before opened b = cond (opened || eqb b closes) [] (space ∷ [])

unfoldable pub units_shown : ℕ → Bool → List ℕ → List ℕ
units_shown zero opened bs = []
units_shown (suc n) opened [] = []
units_shown (suc n) opened (b ∷ bs) =
    elim (is_sign b) [
      | true ↦
          blank_before opened b
          ++ ((48 + get_or bs 0 0) ∷ 46 ∷ 114 ∷ (48 + get_or bs 1 0) ∷ space ∷ (get_or symbols (b - 1) [] ++ (space ∷ (shown (u64_at bs 2) ++ units_shown n false (drop 10 bs)))))
      | false ↦ blank_before opened b ++ (get_or symbols (b - 1) [] ++ units_shown n (eqb b opens) bs)
    ]

unfoldable pub condition_shown : List ℕ → List ℕ
condition_shown [] = []
condition_shown (b ∷ bs) = bytes_of "finally" ++ (units_shown (length (b ∷ bs)) false (b ∷ bs) ++ (line_feed ∷ []))

unfoldable pub written_text : List ℕ → List ℕ → List ℕ
written_text table condition =
    bytes_of "cells"
    ++ (values_shown table (cells_of table) 0
    ++ (line_feed ∷ (plains_shown table ++ (threads_shown table (threads_of table) 0 ++ condition_shown condition))))

-- what the writer answers, and what it leaves in the buffer
pub data Written : Type 0 where
  unfit : Written
  short : ℕ → Written
  written : ℕ → Written

pub record WrittenInto : Type 0 where
  pub answer : Written
  pub text : List ℕ

-- a table or a condition that is none is refused; too small a buffer, with the bytes that are needed. Both leave it as it is
unfoldable pub written_into : List ℕ → List ℕ → List ℕ → WrittenInto
written_into table condition text =
    elim (judged table) [
      | good ↦
          elim (is_condition (threads_of table) condition) [
            | false ↦ record { answer = unfit; text = text }
            | true ↦
                elim (leb (length (written_text table condition)) (length text)) [
                  | false ↦ record { answer = short (length (written_text table condition)); text = text }
                  | true ↦ record {
                    answer = written (length (written_text table condition));
                    text = filled (length text) (written_text table condition);
                  }
                ]
          ]
      | bad_header ↦ record { answer = unfit; text = text }
      | bad_row t k ↦ record { answer = unfit; text = text }
    ]
