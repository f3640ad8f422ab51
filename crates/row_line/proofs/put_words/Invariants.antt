use lib.ListN.{drop}
use Rattle.rules.specs.Writer.{form_shown}
use Rattle.put.specs.Puts.{ToPut}
use Rattle.row_line.proofs.put_words.Given as goal

abbrev pub invariant-loop-byte : goal.invariant-loop-byte
invariant-loop-byte l = ToPut l.initial.text l.text l.at l.to (form_shown l.words l.fields) (form_shown (drop l.byte-index l.words) l.fields)
