use Prim.Native.Nat.{ℕ, ◌≤◌}
use mathlib.Core.Path.{refl, subst}
use Rattle.walk.proofs.WholeLaws.{tick-nobody, tick-someone}
use Rattle.walk.proofs.tick.Goals as goal

pub returns-then-thread-ge-MAX_THREADS : goal.returns-then-thread-ge-MAX_THREADS
returns-then-thread-ge-MAX_THREADS c =
    tick-nobody c.args.table.now c.args.shape.now c.args.limits c.args.cursor c.faulted.result c.args.clocks.now c.args.marks.now c.args.values.now c.args.numbers.now c.args.path.now c.args.trace.now
    c.no_site.result c.requires.1 (subst (λ (n : ℕ). 5 ≤ n) c.wide16-thread.ensures.same c.if-thread-ge-MAX_THREADS.true) c.no_site.ensures c.faulted.ensures

pub returns : goal.returns
returns c =
    tick-someone c.args.table.now c.args.shape.now c.args.limits c.args.cursor c.tick_at.result c.args.clocks.now c.args.marks.now c.args.values.now c.args.numbers.now c.args.path.now c.args.trace.now
    _ c.wide16-thread.ensures.same refl c.if-thread-ge-MAX_THREADS.false c.row_of-decoded.ensures _ c.tick_at.ensures
