-- What the answers of this crate stand for in the definition. Assumes nothing.
--     TextAnswered    a whole text
--     with_buffers     what is answered, and left in both buffers
use Rattle.std.specs.Prelude.{ℕ, List, ◌≡◌, length, drop, Result, Ok, Err}
use Rattle.rules.specs.Text as rules
use Rattle.rules.specs.Text.{Draft}
use Rattle.filling.specs.Tables.{HeldTable}
use Rattle.reader.specs.declared.Taken.{Taken}
use Rattle.reader.specs.declared.Untaken.{Untaken}
use Rattle.reader.specs.declared.Untaken.TheVariants.{NoRoom, Refused}

-- a whole text: the place where it is refused; or its bytes in both buffers
pub record Took (table condition : List ℕ) (bytes claimed : ℕ) (read : rules.TextRead) : Type 0 where
  pub table_is : List ℕ
  pub condition_is : List ℕ
  pub says : read ≡ rules.accepted table_is condition_is
  pub table_left : table ≡ rules.filled (length table) table_is
  pub condition_left : condition ≡ rules.filled (length condition) condition_is
  pub table_long : bytes ≡ length table_is
  pub condition_long : claimed ≡ length condition_is

abbrev pub TextAnswered : List ℕ → List ℕ → List ℕ → Result Taken ℕ → rules.TextRead → Type 0
TextAnswered text table condition (Err at) read = read ≡ rules.refused_at (drop at text)
TextAnswered text table condition (Ok taken) read = Took table condition taken.table taken.condition read

pub record TextAnswers (text table condition : List ℕ) (r : Result Taken ℕ) (read : rules.TextRead) : Type 0 where
  pub is : TextAnswered text table condition r read

-- the same, from any table that the buffer holds
pub record Closes (text table condition : List ℕ) (n : ℕ) (r : Result Taken ℕ) (read : Draft → rules.TextRead) : Type 0 where
  pub is : (m : Draft) → HeldTable table n m → TextAnswered text table condition r (read m)

abbrev pub text_answer_of : Result Taken Untaken → rules.TextAnswer
text_answer_of (Err NoRoom) = rules.no_room
text_answer_of (Err (Refused line column)) = rules.refused line column
text_answer_of (Ok taken) = rules.taken taken.table taken.condition

-- with what is left in both buffers
abbrev pub with_buffers : Result Taken Untaken → List ℕ → List ℕ → rules.ReadInto
with_buffers r table condition = record { answer = text_answer_of r; table = table; condition = condition }
