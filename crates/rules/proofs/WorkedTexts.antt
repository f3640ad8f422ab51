-- The worked texts hold of the definition: computed by the checker.
use mathlib.Core.List.{[], map}
use mathlib.Core.Path.{◌≡◌, refl}
use Rattle.rules.specs.Condition as Condition
use Rattle.rules.specs.Event as Event
use Rattle.rules.specs.Form as Form
use Rattle.rules.specs.Table as Table
use Rattle.rules.specs.Text as Text
use Rattle.rules.specs.Token as Token
use Rattle.rules.specs.Vector as Vector
use Rattle.rules.specs.Worked as Worked
use Rattle.rules.specs.WorkedTexts as WorkedTexts
use Rattle.rules.specs.Writer as Writer

-- the example is read as its table and condition, also in another layout
pub read-example : Text.read_text (Token.bytes_of WorkedTexts.hand_off) ≡ Text.accepted WorkedTexts.hand_off_table WorkedTexts.hand_off_condition
unfolding Token.bytes_of Token.ends_line Token.run_length Token.token_length Token.line_length Token.content Token.digits_behind Token.number_in Token.register_in Token.plain_in Token.place_in Form.forms Form.field_of Form.letter_in Form.value_of Form.follow Form.tried Form.row_in Form.fields_as_bytes Text.thread_register_in Text.unit_at Text.claimed Text.rows_ahead Text.threads_ahead Text.values_line Text.line_of Text.lines_from Text.read_text Text.place_behind Text.read_into Writer.digits_of Writer.letter_shown Writer.form_shown Writer.form_in Writer.row_shown Writer.rows_shown Writer.threads_shown Writer.values_shown Writer.plains_shown Writer.units_shown Writer.condition_shown Writer.written_text Condition.compared Condition.behind Condition.comparison_at Condition.condition_at Vector.equal Event.little Table.u16_at Table.u32_at Table.u64_at Table.counts_of Table.first_rows Table.start_value Table.row_from Table.row_at Worked.rows_as_bytes Worked.threads_as_bytes Worked.values_as_bytes Worked.table_with
read-example = refl

pub read-loose : Text.read_text (Token.bytes_of WorkedTexts.hand_off_loose) ≡ Text.accepted WorkedTexts.hand_off_table WorkedTexts.hand_off_condition
unfolding Token.bytes_of Token.ends_line Token.run_length Token.token_length Token.line_length Token.content Token.digits_behind Token.number_in Token.register_in Token.plain_in Token.place_in Form.forms Form.field_of Form.letter_in Form.value_of Form.follow Form.tried Form.row_in Form.fields_as_bytes Text.thread_register_in Text.unit_at Text.claimed Text.rows_ahead Text.threads_ahead Text.values_line Text.line_of Text.lines_from Text.read_text Text.place_behind Text.read_into Writer.digits_of Writer.letter_shown Writer.form_shown Writer.form_in Writer.row_shown Writer.rows_shown Writer.threads_shown Writer.values_shown Writer.plains_shown Writer.units_shown Writer.condition_shown Writer.written_text Condition.compared Condition.behind Condition.comparison_at Condition.condition_at Vector.equal Event.little Table.u16_at Table.u32_at Table.u64_at Table.counts_of Table.first_rows Table.start_value Table.row_from Table.row_at Worked.rows_as_bytes Worked.threads_as_bytes Worked.values_as_bytes Worked.table_with
read-loose = refl

-- and is what is written of them
pub write-example : Writer.written_text WorkedTexts.hand_off_table WorkedTexts.hand_off_condition ≡ Token.bytes_of WorkedTexts.hand_off
unfolding Token.bytes_of Token.ends_line Token.run_length Token.token_length Token.line_length Token.content Token.digits_behind Token.number_in Token.register_in Token.plain_in Token.place_in Form.forms Form.field_of Form.letter_in Form.value_of Form.follow Form.tried Form.row_in Form.fields_as_bytes Text.thread_register_in Text.unit_at Text.claimed Text.rows_ahead Text.threads_ahead Text.values_line Text.line_of Text.lines_from Text.read_text Text.place_behind Text.read_into Writer.digits_of Writer.letter_shown Writer.form_shown Writer.form_in Writer.row_shown Writer.rows_shown Writer.threads_shown Writer.values_shown Writer.plains_shown Writer.units_shown Writer.condition_shown Writer.written_text Condition.compared Condition.behind Condition.comparison_at Condition.condition_at Vector.equal Event.little Table.u16_at Table.u32_at Table.u64_at Table.counts_of Table.first_rows Table.start_value Table.row_from Table.row_at Worked.rows_as_bytes Worked.threads_as_bytes Worked.values_as_bytes Worked.table_with
write-example = refl

-- so it is with plain cells
pub read_plain : Text.read_text (Token.bytes_of WorkedTexts.hand_off_plain) ≡ Text.accepted WorkedTexts.hand_off_plain_table []
unfolding Token.bytes_of Token.ends_line Token.run_length Token.token_length Token.line_length Token.content Token.digits_behind Token.number_in Token.register_in Token.plain_in Token.place_in Form.forms Form.field_of Form.letter_in Form.value_of Form.follow Form.tried Form.row_in Form.fields_as_bytes Text.thread_register_in Text.unit_at Text.claimed Text.rows_ahead Text.threads_ahead Text.values_line Text.line_of Text.lines_from Text.read_text Text.place_behind Text.read_into Writer.digits_of Writer.letter_shown Writer.form_shown Writer.form_in Writer.row_shown Writer.rows_shown Writer.threads_shown Writer.values_shown Writer.plains_shown Writer.units_shown Writer.condition_shown Writer.written_text Condition.compared Condition.behind Condition.comparison_at Condition.condition_at Vector.equal Event.little Table.u16_at Table.u32_at Table.u64_at Table.counts_of Table.first_rows Table.start_value Table.row_from Table.row_at Worked.rows_as_bytes Worked.threads_as_bytes Worked.values_as_bytes Worked.table_with
read_plain = refl

pub write-plain : Writer.written_text WorkedTexts.hand_off_plain_table [] ≡ Token.bytes_of WorkedTexts.hand_off_plain
unfolding Token.bytes_of Token.ends_line Token.run_length Token.token_length Token.line_length Token.content Token.digits_behind Token.number_in Token.register_in Token.plain_in Token.place_in Form.forms Form.field_of Form.letter_in Form.value_of Form.follow Form.tried Form.row_in Form.fields_as_bytes Text.thread_register_in Text.unit_at Text.claimed Text.rows_ahead Text.threads_ahead Text.values_line Text.line_of Text.lines_from Text.read_text Text.place_behind Text.read_into Writer.digits_of Writer.letter_shown Writer.form_shown Writer.form_in Writer.row_shown Writer.rows_shown Writer.threads_shown Writer.values_shown Writer.plains_shown Writer.units_shown Writer.condition_shown Writer.written_text Condition.compared Condition.behind Condition.comparison_at Condition.condition_at Vector.equal Event.little Table.u16_at Table.u32_at Table.u64_at Table.counts_of Table.first_rows Table.start_value Table.row_from Table.row_at Worked.rows_as_bytes Worked.threads_as_bytes Worked.values_as_bytes Worked.table_with
write-plain = refl

-- each text is refused at its place
pub refused-there : map WorkedTexts.text_answered WorkedTexts.refusals ≡ map WorkedTexts.expected WorkedTexts.refusals
unfolding Token.bytes_of Token.ends_line Token.run_length Token.token_length Token.line_length Token.content Token.digits_behind Token.number_in Token.register_in Token.plain_in Token.place_in Form.forms Form.field_of Form.letter_in Form.value_of Form.follow Form.tried Form.row_in Form.fields_as_bytes Text.thread_register_in Text.unit_at Text.claimed Text.rows_ahead Text.threads_ahead Text.values_line Text.line_of Text.lines_from Text.read_text Text.place_behind Text.read_into Writer.digits_of Writer.letter_shown Writer.form_shown Writer.form_in Writer.row_shown Writer.rows_shown Writer.threads_shown Writer.values_shown Writer.plains_shown Writer.units_shown Writer.condition_shown Writer.written_text Condition.compared Condition.behind Condition.comparison_at Condition.condition_at Vector.equal Event.little Table.u16_at Table.u32_at Table.u64_at Table.counts_of Table.first_rows Table.start_value Table.row_from Table.row_at Worked.rows_as_bytes Worked.threads_as_bytes Worked.values_as_bytes Worked.table_with
refused-there = refl
