use borrow.Author.Rules.{rules}
use mathlib.Core.Path.{◌≡◌, refl, sym, ◌∙◌}
use lib.ListN.{length}
use Rattle.rules.specs.Vector.{equal}
use Rattle.vv.proofs.Walks.{within, beyond, left-none, equal-on, equal-ends}
use Rattle.vv.proofs.VersionVec.equal.Goals as goal

pub loop-i-init : goal.loop-i-init
loop-i-init c = refl

pub returns-then-self-i : goal.returns-then-self-i
returns-then-self-i c =
    let len1 : length c.args.self.versions ≡ 5 = search rules in
    let len2 : length c.args.other.versions ≡ 5 = search rules in
    sym (equal-ends _ _ _ (within _ _ len1 c.loop-i-test.true) (within _ _ len2 c.loop-i-test.true) c.if-self-i.true) ∙ c.loop-i.invariant

pub loop-i-preserved : goal.loop-i-preserved
loop-i-preserved c =
    let len1 : length c.args.self.versions ≡ 5 = search rules in
    let len2 : length c.args.other.versions ≡ 5 = search rules in
    equal-on _ _ _ (within _ _ len1 c.loop-i-test.true) (within _ _ len2 c.loop-i-test.true) c.if-self-i.false ∙ c.loop-i.invariant

pub returns : goal.returns
unfolding equal
returns c =
    let len1 : length c.args.self.versions ≡ 5 = search rules in
    let len2 : length c.args.other.versions ≡ 5 = search rules in
    sym (left-none equal _ _ _ (beyond _ _ len1 c.loop-i-test.false) (beyond _ _ len2 c.loop-i-test.false)) ∙ c.loop-i.invariant
