use borrow.Author.Rules.{rules}
use native.Mathlib.Omega.{arith}
use Prim.Native.Nat.{◌<◌}
use mathlib.Core.Path.{◌≡◌, ◌∙◌}
use lib.ListN.{length, length-set}
use Rattle.synchronize.proofs.SeenLaws.{touch-none, touch-own, touch-on, touch-all}
use Rattle.synchronize.proofs.first_seen.FirstSeen.touch.Goals as goal
use Rattle.synchronize.proofs.first_seen.FirstSeen.touch.Goals.{else-i-thread, then-i-thread}

pub loop-i-init : goal.loop-i-init
loop-i-init c =
    let len : length c.args.self.versions ≡ 5 = search rules in
    (len, touch-none _ c.args.thread c.args.version)

pub loop-i-preserved : goal.loop-i-preserved
loop-i-preserved c =
    let h : c.loop-i.i < length c.loop-i.self.versions = omega arith in (
      simp length-set c.loop-i.invariant.0,
      elim c.if-i-thread.branch [
        | then-i-thread w ↦ touch-own _ _ _ _ c.loop-i.i c.loop-i.invariant.1 h _ w.if-i-thread.true w.self-is
        | else-i-thread w ↦ touch-on _ _ _ _ c.loop-i.i c.loop-i.invariant.1 h _ w.if-i-thread.false w.self-is
      ],
    )

pub returns : goal.returns
returns c =
    let len : length c.args.self.versions ≡ 5 = search rules in
    c.loop-i.invariant.1 ∙ touch-all _ _ _ c.loop-i.i (omega (arith, len))
