use borrow.Author.Rules.{rules}
use borrow.Author.Tests.{not-true, not-false}
use Rattle.path.proofs.ChoiceLaws.{spurious-not, spurious-is}
use Rattle.path.proofs.branch_spurious.Goals as goal

pub returns-then-not-has_kind : goal.returns-then-not-has_kind
returns-then-not-has_kind c = spurious-not _ _ _ c.has_kind.ensures (not-true _ c.if-not-has_kind.true-raw)

pub field-requires : goal.field-requires
field-requires c = (c.has_kind.ensures.fits (not-false _ c.if-not-has_kind.false-raw), search rules)

pub returns : goal.returns
returns c =
    spurious-is _ _ _ c.has_kind.ensures (not-false _ c.if-not-has_kind.false-raw) _ c.field.ensures
