use Rattle.accesses.proofs.OpLaws.{row_within, some-within, from-refused, from_nothing, from-dead, from-live}
use borrow.Author.Tests.{not-true, not-false}
use Rattle.accesses.proofs.read_from.Goals as goal

pub returns-in_default : goal.returns-in_default
returns-in_default c = λ m. from-refused _ _ _ _ _ _ c.in_default.is

pub to_read-requires : goal.to_read-requires
to_read-requires c = row_within _ _ c.in-Some.is c.requires.0.names

pub returns-in_default-to_read : goal.returns-in_default-to_read
returns-in_default-to_read c = λ m. from_nothing _ _ _ _ _ _ _ c.in-Some.is _ c.to_read.ensures.is c.in_default-to_read.is

pub is_live-requires : goal.is_live-requires
is_live-requires c = (some-within _ _ c.in-Some-to_read.is c.to_read.ensures.within).0

pub returns-then-not-is_live : goal.returns-then-not-is_live
returns-then-not-is_live c =
    λ m.
    from-dead _ _ _ _ _ _ _ c.in-Some.is _ c.to_read.ensures.is _ c.in-Some-to_read.is _ c.is_live.ensures (not-true _ c.if-not-is_live.true-raw)

pub read-loaded-requires : goal.read-loaded-requires
read-loaded-requires c =
    (c.requires.0.who, c.requires.1, row_within _ _ c.in-Some.is c.requires.0.names)

pub put_value-requires : goal.put_value-requires
put_value-requires c = (c.requires.0.who, (some-within _ _ c.in-Some-to_read.is c.to_read.ensures.within).1)

pub returns : goal.returns
returns c =
    λ m.
    from-live _ _ _ _ _ _ _ c.in-Some.is _ c.to_read.ensures.is _ c.in-Some-to_read.is _ c.is_live.ensures (not-false _ c.if-not-is_live.false-raw) _
    c.read-loaded.ensures _ (c.put_value.ensures _ _ _ m)
