use Prim.Native.Nat.{◌+◌, ◌-◌, ◌<◌}
use mathlib.Core.Path.{◌≡◌, refl, ◌∙◌}
use native.Mathlib.Omega.{arith}
use Rattle.rules.specs.Table.{threads_of}
use Rattle.rules.specs.Token.{bytes_of}
use Rattle.put.proofs.PutLaws.{coming-all, coming-on, come}
use Rattle.writer.proofs.TextLaws.{threads-out, threads-next, shape-count, shape-first}
use Rattle.writer.proofs.put_threads.Goals as goal

pub bounds-table-0 : goal.bounds-table-0
bounds-table-0 c = omega (arith, c.requires.header)

pub loop-thread-init : goal.loop-thread-init
loop-thread-init c =
    let all : threads_of c.args.table.now - 0 ≡ threads_of c.args.table.now = omega arith in
    rw all (coming-all _ _ _ (omega arith) (omega arith))

pub put_rows-to-requires : goal.put_rows-to-requires
put_rows-to-requires c =
    (c.requires, omega (arith, c.wide16-count.ensures.bounded, c.wide16-first.ensures.bounded))

pub loop-thread-preserved : goal.loop-thread-preserved
unfolding bytes_of
loop-thread-preserved c =
    let table = c.args.table.now in
    let left = threads_of table - c.loop-thread.thread in
    let more : 0 < left = omega (arith, c.wide8-thread-end.ensures.same) in
    let few : c.loop-thread.thread < 5 = omega (arith, c.requires.threads) in
    let one-less : threads_of table - (c.loop-thread.thread + 1) ≡ left - 1 = omega arith in
    rw one-less
    (coming-on _ _ _ _ _ _ _ _ _ _ refl
    (coming-on _ _ _ _ _ _ _ _ _ _
    (threads-next table left c.loop-thread.thread more c.wide16-first.result c.wide16-count.result
    (c.wide16-first.ensures.same ∙ shape-first table c.requires.header c.loop-thread.thread few _ c.shape-shape.ensures)
    (c.wide16-count.ensures.same ∙ shape-count table c.requires.header c.loop-thread.thread few _ c.shape-shape.ensures))
    c.loop-thread.invariant
    c.put_bytes-behind.ensures)
    c.put_rows-to.ensures)

pub returns : goal.returns
returns c =
    let table = c.args.table.now in
    come _ _ _ _ _ _ (threads-out table (threads_of table - c.loop-thread.thread) c.loop-thread.thread (omega (arith, c.wide8-thread-end.ensures.same))) c.loop-thread.invariant
