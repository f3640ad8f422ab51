use borrow.Author.Rules.{rules}
use mathlib.Core.Path.{◌≡◌, ◌∙◌}
use lib.ListN.{length, length-set}
use Rattle.vv.proofs.Walks.{beyond, raise-none, raise-own, raise-on, raise-all}
use Rattle.vv.proofs.VersionVec.raise.Goals as goal
use Rattle.vv.proofs.VersionVec.raise.Goals.{else-i-thread, then-i-thread}

pub loop-i-init : goal.loop-i-init
loop-i-init c = (search rules, raise-none _ c.args.thread)

pub loop-i-preserved : goal.loop-i-preserved
loop-i-preserved c = (
  simp length-set c.loop-i.invariant.0,
  elim c.if-i-thread.branch [
    | then-i-thread w ↦ raise-own _ _ _ _ _ c.loop-i.invariant.1 w.if-i-thread.true (w.self-is ∙ w.one_more.ensures)
    | else-i-thread w ↦ raise-on _ _ _ _ _ c.loop-i.invariant.1 w.if-i-thread.false w.self-is
  ],
)

pub returns : goal.returns
returns c =
    let len : length c.args.self.versions ≡ 5 = search rules in
    c.loop-i.invariant.1 ∙ raise-all _ _ _ (beyond _ _ len c.loop-i-test.false)
