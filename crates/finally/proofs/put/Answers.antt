use Rattle.rules.specs.Token.{bytes_of}
use Rattle.finally.specs.Finals.{put_finally}
use Rattle.finally.proofs.put.Goals as goal

pub returns : goal.returns
unfolding put_finally bytes_of
returns c =
    rw (c.put_whole-to.ensures, c.after-held.ensures, c.count.ensures, c.wide16-threads.ensures.same, c.shape-shape.ensures, c.put-to.ensures) at c.put_parts.ensures
