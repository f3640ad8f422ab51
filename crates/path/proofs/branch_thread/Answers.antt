use borrow.Author.Tests.{not-true, not-false}
use Rattle.path.proofs.ChoiceLaws.{chosen-other, chosen-thread}
use Rattle.path.proofs.branch_thread.Goals as goal

pub returns-then-not-has_kind : goal.returns-then-not-has_kind
returns-then-not-has_kind c = chosen-other _ _ _ c.has_kind.ensures (not-true _ c.if-not-has_kind.true-raw)

pub active_thread_index-requires : goal.active_thread_index-requires
active_thread_index-requires c = c.has_kind.ensures.fits (not-false _ c.if-not-has_kind.false-raw)

pub returns : goal.returns
returns c =
    chosen-thread _ _ _ c.has_kind.ensures (not-false _ c.if-not-has_kind.false-raw) _ c.active_thread_index.ensures
