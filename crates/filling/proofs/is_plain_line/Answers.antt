use mathlib.Core.Path.{◌∙◌}
use Rattle.rules.specs.Token.{bytes_of}
use Rattle.filling.proofs.OneLaws.{plains-begun, plains-twice, plains-word}
use Rattle.filling.proofs.is_plain_line.Goals as goal

pub returns-then-table-gt0 : goal.returns-then-table-gt0
returns-then-table-gt0 c = plains-begun c.args.table.now _ c.if-table-gt0.true

pub returns-then-table-gt0-2 : goal.returns-then-table-gt0-2
returns-then-table-gt0-2 c =
    plains-twice c.args.table.now _ c.if-table-gt0.false c.if-table-gt0-2.true

pub returns : goal.returns
unfolding bytes_of
returns c =
    c.is_word.ensures ∙ plains-word c.args.table.now _ c.if-table-gt0.false c.if-table-gt0-2.false
