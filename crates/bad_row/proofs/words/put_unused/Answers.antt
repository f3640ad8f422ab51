use Rattle.rules.specs.Token.{bytes_of}
use Rattle.bad_row.specs.Words.{put_unused}
use Rattle.bad_row.proofs.words.put_unused.Goals as goal

pub returns : goal.returns
unfolding put_unused bytes_of
returns c =
    rw (c.put_nth-to.ensures, c.fill-to.ensures) at c.put.ensures
