use borrow.Enum.Refused.{opened}
use Rattle.rules.specs.Token.{bytes_of}
use Rattle.verdict.proofs.VerdictLaws.{wants-refused, wants-else, wants-check}
use Rattle.verdict.proofs.put_wanted.Goals as goal

pub returns-in_default : goal.returns-in_default
returns-in_default c = wants-refused _ _ _ c.row_of.ensures c.in_default.is

pub returns-in_default-op : goal.returns-in_default-op
returns-in_default-op c = wants-else _ _ _ c.row_of.ensures _ c.in-Some.is (opened c.in_default-op.in_default-op-own.keys2)

pub returns : goal.returns
unfolding bytes_of
returns c =
    wants-check _ _ _ c.row_of.ensures _ c.in-Some.is _ _ _ c.in-Check.is (rw (c.after-held.ensures, c.count.ensures) at c.register-value.ensures) c.fill.ensures
