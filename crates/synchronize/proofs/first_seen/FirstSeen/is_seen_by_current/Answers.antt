use borrow.Author.Rules.{rules}
use mathlib.Core.Bool.{Bool, ◌||◌}
use mathlib.Core.Path.{◌≡◌, refl, sym, ap, ◌∙◌}
use lib.ListN.{length}
use Rattle.vv.proofs.Walks.{within, beyond, left-none}
use Rattle.rules.specs.Seen.{seen, seen_through}
use Rattle.synchronize.proofs.SeenLaws.{seen-on, so-far}
use Rattle.synchronize.proofs.first_seen.FirstSeen.is_seen_by_current.Goals as goal

pub loop-i-init : goal.loop-i-init
loop-i-init c = refl

pub loop-i-preserved : goal.loop-i-preserved
loop-i-preserved c =
    let len1 : length c.args.self.versions ≡ 5 = search rules in
    let len2 : length c.args.causality ≡ 5 = search rules in
    seen-on c.args.self.versions c.args.causality c.loop-i.i (within _ _ len1 c.loop-i-test.true) (within _ _ len2 c.loop-i-test.true) c.loop-i.seen _ (c.latest_known.ensures _)
    ∙ c.loop-i.invariant

pub returns : goal.returns
unfolding seen seen_through
returns c =
    let len1 : length c.args.self.versions ≡ 5 = search rules in
    let len2 : length c.args.causality ≡ 5 = search rules in
    sym (so-far _)
    ∙ sym (ap (λ (b : Bool). c.loop-i.seen || b) (left-none seen _ _ _ (beyond _ _ len1 c.loop-i-test.false) (beyond _ _ len2 c.loop-i-test.false)))
    ∙ c.loop-i.invariant
