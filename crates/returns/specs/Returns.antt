-- What is assured of texts: document 02, §3. `read_text` and `written_text` are the definition's (crates/rules: Text, Writer). Assumes
-- nothing.
--     Returned     what was written is read back
--     Sound        what is read is a table that document 01 accepts, and a condition
--     Bytes        both are bytes
--     Again        so what is read, written and read again stays the same
use Rattle.std.specs.Prelude.{ℕ, List, true, ◌≡◌}
use Rattle.rules.specs.Table.{judged, good, threads_of}
use Rattle.rules.specs.Condition.{is_condition}
use Rattle.rules.specs.ConditionTree.{AllBytes}
use Rattle.rules.specs.Text.{read_text, accepted}
use Rattle.rules.specs.Writer.{written_text}

-- "Reading what was written gives the same table and condition."
unfoldable pub Returned : Type 0
Returned =
    (table condition : List ℕ) → AllBytes table → AllBytes condition → judged table ≡ good → is_condition (threads_of table) condition ≡ true →
    read_text (written_text table condition) ≡ accepted table condition

-- None that document 01 refuses can be read: whatever the text
unfoldable pub Sound : Type 0
Sound =
    (text table condition : List ℕ) → read_text text ≡ accepted table condition →
    (judged table ≡ good) × (is_condition (threads_of table) condition ≡ true)

-- Both are bytes, whatever the text
unfoldable pub Bytes : Type 0
Bytes = (text table condition : List ℕ) → read_text text ≡ accepted table condition → AllBytes table × AllBytes condition

-- What any text says is kept where it is written in the writer's own way
unfoldable pub Again : Type 0
Again = (text table condition : List ℕ) → read_text text ≡ accepted table condition → read_text (written_text table condition) ≡ accepted table condition
