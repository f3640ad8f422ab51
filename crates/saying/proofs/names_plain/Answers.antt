use Rattle.rules.specs.Token.{bytes_of}
use Rattle.saying.proofs.SayLaws.{plain-named}
use Rattle.saying.proofs.names_plain.Goals as goal

pub returns : goal.returns
unfolding bytes_of
returns c =
    let a = c.args in
    plain-named a.text.now a.before _ c.token_end-end.ensures a.begin _ _ _ _ _ c.past_blanks-first.ensures c.token_end-behind.ensures c.is_word-read.ensures c.is_word-to.ensures c.is_word-write.ensures
