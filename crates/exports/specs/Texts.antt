-- What the entries for texts are given and leave: numbers and bytes alone. Assumes nothing.
--     read_numbers, written_numbers      what the reader and the writer answer, in numbers
--     ReadEntered, WrittenEntered      what is answered, and what the buffers are left as
--     read_entered, written_entered      for any input
use Rattle.std.specs.Prelude.{ℕ, List, [], ◌∷◌, cond, eqb, length, get_or}
use Rattle.rules.specs.Condition.{condition_bytes}
use Rattle.rules.specs.Text.{TextAnswer, no_room, refused, taken, ReadInto, read_into, table_bytes}
use Rattle.rules.specs.Writer.{Written, unfit, short, written, WrittenInto, written_into}

-- 0 read, 1 refused, 2 too small a buffer; the lengths of table and condition, or those that are needed; line and column
abbrev pub read_numbers : TextAnswer → List ℕ
read_numbers no_room = 2 ∷ table_bytes ∷ condition_bytes ∷ 0 ∷ 0 ∷ []
read_numbers (refused line column) = 1 ∷ 0 ∷ 0 ∷ line ∷ column ∷ []
read_numbers (taken bytes claimed) = 0 ∷ bytes ∷ claimed ∷ 0 ∷ 0 ∷ []

-- 0 written, 1 refused, 2 too small a buffer; the text's length, or the one that is needed
abbrev pub written_numbers : Written → List ℕ
written_numbers unfit = 1 ∷ 0 ∷ []
written_numbers (short needed) = 2 ∷ needed ∷ []
written_numbers (written length) = 0 ∷ length ∷ []

pub record ReadEntered : Type 0 where
  pub answer : ℕ
  pub table : List ℕ
  pub condition : List ℕ
  pub numbers : List ℕ

abbrev pub read_left : ℕ → List ℕ → List ℕ → List ℕ → ReadEntered
read_left answer table condition numbers = record { answer = answer; table = table; condition = condition; numbers = numbers }

abbrev pub read_by : ReadInto → ReadEntered
read_by i = read_left (get_or (read_numbers i.answer) 0 0) i.table i.condition (read_numbers i.answer)

-- 255, and nothing written, for another number of numbers than five; else what the definition's `read_into` is, in numbers
unfoldable pub read_entered : List ℕ → List ℕ → List ℕ → List ℕ → ReadEntered
read_entered text table condition numbers =
    cond (eqb (length numbers) 5) (read_by (read_into text table condition)) (read_left 255 table condition numbers)

pub record WrittenEntered : Type 0 where
  pub answer : ℕ
  pub text : List ℕ
  pub numbers : List ℕ

abbrev pub written_left : ℕ → List ℕ → List ℕ → WrittenEntered
written_left answer text numbers = record { answer = answer; text = text; numbers = numbers }

abbrev pub written_by : WrittenInto → WrittenEntered
written_by i = written_left (get_or (written_numbers i.answer) 0 0) i.text (written_numbers i.answer)

-- the same for two numbers, and the definition's `written_into`
unfoldable pub written_entered : List ℕ → List ℕ → List ℕ → List ℕ → WrittenEntered
written_entered table condition text numbers =
    cond (eqb (length numbers) 2) (written_by (written_into table condition text)) (written_left 255 text numbers)
