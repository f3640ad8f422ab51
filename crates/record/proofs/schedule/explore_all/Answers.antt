use borrow.Author.Rules.{rules}
use Rattle.record.proofs.MarkLaws.{all_none, skips-none, all-on, more-on, all_done}
use Rattle.record.proofs.schedule.explore_all.Goals as goal

pub loop-thread-init : goal.loop-thread-init
loop-thread-init c = (search rules, search rules, search rules, all_none _ _ c.requires, skips-none _ _ c.requires)

pub loop-thread-preserved : goal.loop-thread-preserved
loop-thread-preserved c =
    (search rules, search rules, search rules, all-on _ _ c.requires _ _ c.loop-thread.invariant.3 _ _ c.explore-opened.ensures, more-on _ _ c.requires _ _ c.loop-thread.invariant.3 _ _ c.explore-opened.ensures _ c.loop-thread.invariant.4)

pub returns : goal.returns
returns c =
    all_done _ _ c.requires _ _ _ c.loop-thread-test.false (search rules) c.loop-thread.invariant.3 c.loop-thread.invariant.4
