use borrow.Author.Rules.{rules}
use mathlib.Core.Path.{◌≡◌, refl, sym, ◌∙◌}
use lib.ListN.{length}
use Rattle.vv.proofs.Walks.{within, beyond, compared-on, compared-ends, compared-none}
use Rattle.vv.proofs.VersionVec.partial_cmp.Goals as goal

pub loop-i-init : goal.loop-i-init
loop-i-init c = refl

pub returns-then-other-i : goal.returns-then-other-i
returns-then-other-i c =
    let len1 : length c.args.self.versions ≡ 5 = search rules in
    let len2 : length c.args.other.versions ≡ 5 = search rules in
    sym (compared-ends _ _ _ (within _ _ len1 c.loop-i-test.true) (within _ _ len2 c.loop-i-test.true) c.loop-i.same c.if-other-i.true) ∙ c.loop-i.invariant

pub loop-i-preserved : goal.loop-i-preserved
loop-i-preserved c =
    let len1 : length c.args.self.versions ≡ 5 = search rules in
    let len2 : length c.args.other.versions ≡ 5 = search rules in
    compared-on _ _ _ (within _ _ len1 c.loop-i-test.true) (within _ _ len2 c.loop-i-test.true) c.loop-i.same c.if-other-i.false ∙ c.loop-i.invariant

pub returns-then-same : goal.returns-then-same
returns-then-same c =
    let len1 : length c.args.self.versions ≡ 5 = search rules in
    let len2 : length c.args.other.versions ≡ 5 = search rules in
    compared-none _ _ _ (beyond _ _ len1 c.loop-i-test.false) (beyond _ _ len2 c.loop-i-test.false) _ _ c.if-same.true ∙ c.loop-i.invariant

pub returns-else-same : goal.returns-else-same
returns-else-same c =
    let len1 : length c.args.self.versions ≡ 5 = search rules in
    let len2 : length c.args.other.versions ≡ 5 = search rules in
    compared-none _ _ _ (beyond _ _ len1 c.loop-i-test.false) (beyond _ _ len2 c.loop-i-test.false) _ _ c.if-same.false ∙ c.loop-i.invariant
