use Prim.Native.Nat.{◌+◌}
use native.Mathlib.Omega.{arith}
use lib.ListN.{length}
use borrow.Author.Tests.{lt-ltb, le-ltb, le-leb, lt-leb}
use Rattle.rules.specs.Token.{bytes_of}
use Rattle.bad_condition.specs.Conditions.{put_bad_comparison}
use Rattle.bad_condition.proofs.put_bad_comparison.Goals as goal

pub returns-then-condition-from-lt-COMPARISON : goal.returns-then-condition-from-lt-COMPARISON
unfolding put_bad_comparison bytes_of
returns-then-condition-from-lt-COMPARISON c =
    let g = c.args in
    rw (lt-ltb (length g.condition.now) (g.from + 11) (omega arith)) c.put.ensures

pub returns-then-threads-thread : goal.returns-then-threads-thread
unfolding put_bad_comparison bytes_of
returns-then-threads-thread c =
    let g = c.args in
    rw (le-ltb (length g.condition.now) (g.from + 11) (omega arith), ← c.wide8-thread.ensures.same, le-leb _ _ c.if-threads-thread.true) c.fill.ensures

pub returns-then-register-ge-REGISTERS : goal.returns-then-register-ge-REGISTERS
unfolding put_bad_comparison bytes_of
returns-then-register-ge-REGISTERS c =
    let g = c.args in
    rw (le-ltb (length g.condition.now) (g.from + 11) (omega arith), ← c.wide8-thread.ensures.same, lt-leb _ _ c.if-threads-thread.false, ← c.wide8-register.ensures.same, le-leb _ _ c.if-register-ge-REGISTERS.true) c.fill-then-register-ge-REGISTERS.ensures

pub returns : goal.returns
unfolding put_bad_comparison
returns c =
    let g = c.args in
    rw (le-ltb (length g.condition.now) (g.from + 11) (omega arith), ← c.wide8-thread.ensures.same, lt-leb _ _ c.if-threads-thread.false, ← c.wide8-register.ensures.same, lt-leb _ _ c.if-register-ge-REGISTERS.false)
