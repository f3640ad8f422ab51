use borrow.Author.Tests.{eq-eqb, ne_eqb}
use Rattle.rules.specs.Token.{bytes_of}
use Rattle.bad_condition.specs.Conditions.{put_reason}
use Rattle.bad_condition.proofs.put_reason.Goals as goal

pub returns-then-is_sign : goal.returns-then-is_sign
unfolding put_reason
returns-then-is_sign c =
    rw (← c.is_sign.ensures, c.if-is_sign.true) c.put_bad_comparison.ensures

pub returns-then-byte-eq-OPENS : goal.returns-then-byte-eq-OPENS
unfolding put_reason bytes_of
returns-then-byte-eq-OPENS c =
    rw (← c.is_sign.ensures, c.if-is_sign.false, eq-eqb _ 7 c.if-byte-eq-OPENS.true) c.fill.ensures

pub returns : goal.returns
unfolding put_reason
returns c = rw (← c.is_sign.ensures, c.if-is_sign.false, ne_eqb _ 7 c.if-byte-eq-OPENS.false)
