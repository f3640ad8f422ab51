use borrow.Author.Rules.{rules}
use native.Mathlib.Omega.{arith}
use Prim.Native.Nat.{◌≤◌}
use Rattle.synchronize.proofs.SeenLaws.{known-below, known-last}
use Rattle.synchronize.proofs.first_seen.latest_known.Goals as goal

pub returns-then-part-lt-UNSEEN : goal.returns-then-part-lt-UNSEEN
returns-then-part-lt-UNSEEN c mark = known-below mark _ c.if-part-lt-UNSEEN.true

pub returns-else-part-lt-UNSEEN : goal.returns-else-part-lt-UNSEEN
returns-else-part-lt-UNSEEN c mark =
    let most : c.args.part ≤ 65535 = search rules in
    known-last mark _ (omega (arith, c.if-part-lt-UNSEEN.false, most))
