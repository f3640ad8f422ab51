-- The entries for texts in numbers. Assumes nothing.
--     read-no-call, read_made              another number of numbers; what the reader answered
--     written-no-call, written-made        the same of the writer
use Prim.Native.Nat.{ℕ}
use mathlib.Core.List.{List}
use mathlib.Core.Path.{◌≡◌, refl, sym, ap, ◌∙◌}
use lib.ListN.{length, get_or}
use borrow.Author.Tests.{eq-eqb, ne_eqb}
use Rattle.rules.specs.Text.{read_into}
use Rattle.rules.specs.Writer.{written_into}
use Rattle.reader.specs.Lines.{text_answer_of, with_buffers}
use Rattle.std.specs.Prelude.{Result}
use Rattle.reader.specs.declared.Taken.{Taken}
use Rattle.reader.specs.declared.Untaken.{Untaken}
use Rattle.writer.specs.Answers.{written_of, with_text}
use Rattle.writer.specs.declared.Unwritten.{Unwritten}
use Rattle.exports.specs.Texts.{read_numbers, read_left, read_by, read_entered, written_numbers, written_left, written_by, written_entered}

module _ (text table condition numbers : List ℕ) where
  pub read-no-call : (length numbers ≡ 5 → ⊥) → read_left 255 table condition numbers ≡ read_entered text table condition numbers
  unfolding read_entered
  read-no-call n = rw (ne_eqb (length numbers) 5 n) refl

  read-so : length numbers ≡ 5 → read_entered text table condition numbers ≡ read_by (read_into text table condition)
  unfolding read_entered
  read-so n = rw (eq-eqb (length numbers) 5 n) refl

  pub read_made : length numbers ≡ 5 → (r : Result Taken Untaken) (five : List ℕ) {exit_table exit_condition left : List ℕ}
      → with_buffers r exit_table exit_condition ≡ read_into text table condition
      → five ≡ read_numbers (text_answer_of r) → left ≡ five
      → read_left (get_or five 0 0) exit_table exit_condition left ≡ read_entered text table condition numbers
  read_made n r five e f g = rw (g, f) (ap read_by e ∙ sym (read-so n))

module _ (table condition text numbers : List ℕ) where
  pub written-no-call : (length numbers ≡ 2 → ⊥) → written_left 255 text numbers ≡ written_entered table condition text numbers
  unfolding written_entered
  written-no-call n = rw (ne_eqb (length numbers) 2 n) refl

  written-so : length numbers ≡ 2 → written_entered table condition text numbers ≡ written_by (written_into table condition text)
  unfolding written_entered
  written-so n = rw (eq-eqb (length numbers) 2 n) refl

  pub written-made : length numbers ≡ 2 → (r : Result ℕ Unwritten) (two : List ℕ) {exit_text left : List ℕ}
      → with_text r exit_text ≡ written_into table condition text
      → two ≡ written_numbers (written_of r) → left ≡ two
      → written_left (get_or two 0 0) exit_text left ≡ written_entered table condition text numbers
  written-made n r two e f g = rw (g, f) (ap written_by e ∙ sym (written-so n))
