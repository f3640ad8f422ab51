-- Two answers of an entry that meet its promise are equal. Assumes nothing.
use mathlib.Core.Path.{◌≡◌, ap, sym, ◌∙◌}
use Rattle.exports.specs.Entry.{Entered}
use Rattle.exports.specs.Texts.{ReadEntered, WrittenEntered}
use Rattle.exports.specs.Same.{OneEntered, OneRead, OneWritten}

pub one-entered : OneEntered
unfolding OneEntered
one-entered table condition branches operations executions bound exploring path trace report a b left_path left_trace left_report other_path other_trace other_report h k =
    (ap (λ (x : Entered). x.answer) (h ∙ sym k), ap (λ (x : Entered). x.path) (h ∙ sym k), ap (λ (x : Entered). x.trace) (h ∙ sym k), ap (λ (x : Entered). x.report) (h ∙ sym k))

pub one-read : OneRead
unfolding OneRead
one-read text table condition numbers a b left_table left_condition left_numbers other_table other_condition other_numbers h k =
    (ap (λ (x : ReadEntered). x.answer) (h ∙ sym k), ap (λ (x : ReadEntered). x.table) (h ∙ sym k), ap (λ (x : ReadEntered). x.condition) (h ∙ sym k), ap (λ (x : ReadEntered). x.numbers) (h ∙ sym k))

pub one_written : OneWritten
unfolding OneWritten
one_written table condition text numbers a b left_text left_numbers other_text other_numbers h k =
    (ap (λ (x : WrittenEntered). x.answer) (h ∙ sym k), ap (λ (x : WrittenEntered). x.text) (h ∙ sym k), ap (λ (x : WrittenEntered). x.numbers) (h ∙ sym k))
