-- Two answers of an entry for Rust and C that meet its promise are equal: the number answered, what the buffers are left as, and every
-- number written. Assumes nothing.
use Rattle.std.specs.Prelude.{ℕ, List, ◌≡◌}
use Rattle.exports.specs.Entry.{left_behind, entered}
use Rattle.exports.specs.Texts.{read_left, read_entered, written_left, written_entered}

unfoldable pub OneEntered : Type 0
OneEntered =
    (table condition : List ℕ) (branches operations executions bound exploring : ℕ) (path trace report : List ℕ)
    (a b : ℕ) (left_path left_trace left_report other_path other_trace other_report : List ℕ)
    → left_behind a left_path left_trace left_report ≡ entered table condition branches operations executions bound exploring path trace report
    → left_behind b other_path other_trace other_report ≡ entered table condition branches operations executions bound exploring path trace report
    → (a ≡ b) × (left_path ≡ other_path) × (left_trace ≡ other_trace) × (left_report ≡ other_report)

-- of the entry that reads a text
unfoldable pub OneRead : Type 0
OneRead =
    (text table condition numbers : List ℕ) (a b : ℕ)
    (left_table left_condition left_numbers other_table other_condition other_numbers : List ℕ)
    → read_left a left_table left_condition left_numbers ≡ read_entered text table condition numbers
    → read_left b other_table other_condition other_numbers ≡ read_entered text table condition numbers
    → (a ≡ b) × (left_table ≡ other_table) × (left_condition ≡ other_condition) × (left_numbers ≡ other_numbers)

-- of the entry that writes one
unfoldable pub OneWritten : Type 0
OneWritten =
    (table condition text numbers : List ℕ) (a b : ℕ) (left_text left_numbers other_text other_numbers : List ℕ)
    → written_left a left_text left_numbers ≡ written_entered table condition text numbers
    → written_left b other_text other_numbers ≡ written_entered table condition text numbers
    → (a ≡ b) × (left_text ≡ other_text) × (left_numbers ≡ other_numbers)
