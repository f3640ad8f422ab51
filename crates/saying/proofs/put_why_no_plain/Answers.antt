use Rattle.rules.specs.Token.{bytes_of}
use Rattle.saying.proofs.put_why_no_plain.Goals as goal

pub returns-in-Some : goal.returns-in-Some
unfolding bytes_of
returns-in-Some c =
    rw (← c.plain.ensures, c.in-Some.is) c.put_bytes.ensures

pub returns-in-None : goal.returns-in-None
unfolding bytes_of
returns-in-None c =
    rw (← c.plain.ensures, c.in-None.is) c.put_bytes-in-None.ensures
