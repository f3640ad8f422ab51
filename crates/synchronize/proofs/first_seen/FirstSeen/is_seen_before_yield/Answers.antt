use borrow.Author.Rules.{rules}
use native.Mathlib.Omega.{arith}
use mathlib.Core.Path.{◌≡◌}
use lib.ListN.{length}
use Rattle.synchronize.proofs.SeenLaws.{yield-nobody, yield-none, yield-unseen, yield-seen}
use Rattle.synchronize.proofs.first_seen.FirstSeen.is_seen_before_yield.Goals as goal

pub returns-then-thread-ge-MAX_THREADS : goal.returns-then-thread-ge-MAX_THREADS
returns-then-thread-ge-MAX_THREADS c =
    let len : length c.args.self.versions ≡ 5 = search rules in
    yield-nobody _ _ (omega (arith, len)) _

pub returns-then-last_yield-eq-NONE : goal.returns-then-last_yield-eq-NONE
returns-then-last_yield-eq-NONE c = yield-none _ _ _ c.if-last_yield-eq-NONE.true

pub returns-then-self-thread : goal.returns-then-self-thread
returns-then-self-thread c =
    let len : length c.args.self.versions ≡ 5 = search rules in
    yield-unseen _ _ (omega (arith, len)) _ c.if-self-thread.true

pub returns : goal.returns
returns c =
    let len : length c.args.self.versions ≡ 5 = search rules in
    yield-seen _ _ (omega (arith, len)) _ c.if-last_yield-eq-NONE.false c.if-self-thread.false
