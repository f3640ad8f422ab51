use borrow.Author.Rules.{rules}
use mathlib.Core.Path.{◌≡◌, refl, sym, ◌∙◌}
use lib.ListN.{length, length-set}
use Rattle.vv.proofs.Walks.{within, beyond, join-taken, join_kept, join-none}
use Rattle.vv.proofs.VersionVec.join.Goals as goal
use Rattle.vv.proofs.VersionVec.join.Goals.{else-self-i, then-self-i}

pub loop-i-init : goal.loop-i-init
loop-i-init c = (search rules, refl)

pub loop-i-preserved : goal.loop-i-preserved
loop-i-preserved c =
    let len = c.loop-i.invariant.0 in
    let len2 : length c.args.other.versions ≡ 5 = search rules in
    elim c.if-self-i.branch [
      | then-self-i w ↦ rw w.self-is (simp length-set len, join-taken _ _ _ (within _ _ len c.loop-i-test.true) (within _ _ len2 c.loop-i-test.true) w.if-self-i.true ∙ c.loop-i.invariant.1)
      | else-self-i w ↦ rw w.self-is (len, join_kept _ _ _ (within _ _ len c.loop-i-test.true) (within _ _ len2 c.loop-i-test.true) w.if-self-i.false ∙ c.loop-i.invariant.1)
    ]

pub returns : goal.returns
returns c =
    let len2 : length c.args.other.versions ≡ 5 = search rules in
    sym (join-none _ _ _ (beyond _ _ c.loop-i.invariant.0 c.loop-i-test.false) (beyond _ _ len2 c.loop-i-test.false)) ∙ c.loop-i.invariant.1
