use borrow.Author.Tests.{not-true, not-false}
use Rattle.path.proofs.ChoiceLaws.{load-not, load_is}
use Rattle.path.proofs.branch_load.Goals as goal

pub returns-then-not-has_kind : goal.returns-then-not-has_kind
returns-then-not-has_kind c = load-not _ _ _ c.has_kind.ensures (not-true _ c.if-not-has_kind.true-raw)

pub offered-requires : goal.offered-requires
offered-requires c = c.has_kind.ensures.fits (not-false _ c.if-not-has_kind.false-raw)

pub returns : goal.returns
returns c =
    load_is _ _ _ c.has_kind.ensures (not-false _ c.if-not-has_kind.false-raw) _ c.offered.ensures
