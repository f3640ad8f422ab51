use Rattle.rules.specs.Token.{bytes_of}
use Rattle.finally.specs.Finals.{put_compared}
use Rattle.finally.proofs.put_compared.Goals as goal

pub returns : goal.returns
unfolding put_compared bytes_of
returns c =
    rw (c.put_words-to.ensures, c.put_truth-to.ensures) at c.fill.ensures
