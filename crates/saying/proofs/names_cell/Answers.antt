use Rattle.rules.specs.Token.{bytes_of}
use Rattle.saying.proofs.SayLaws.{cell-named}
use Rattle.saying.proofs.names_cell.Goals as goal

pub returns : goal.returns
unfolding bytes_of
returns c =
    cell-named _ _ _ _ _ c.is_word-load.ensures c.is_word-unsync.ensures c.is_word-to.ensures c.is_word-on.ensures
