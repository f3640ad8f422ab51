use Prim.Native.Nat.{ℕ}
use mathlib.Core.Path.{ap, ◌∙◌}
use native.Mathlib.Omega.{arith}
use lib.ListN.{drop}
use Rattle.rules.specs.Text.{bare_then, with_thread, rows_ahead}
use Rattle.token.proofs.PlaceLaws.{left_by}
use Rattle.filling.proofs.HeldLaws.{held-threads}
use Rattle.filling.proofs.LineLaws.{lined-bare, thread-refused, thread-begun}
use Rattle.filling.proofs.a_thread.Goals as goal

pub bounds-table-0 : goal.bounds-table-0
bounds-table-0 c =
    omega (arith, c.requires.held.room)

pub overflow_cast-threads : goal.overflow_cast-threads
overflow_cast-threads c =
    let a = c.args in
    let h = c.requires.held in
    omega (arith, held-threads a.table.now a.length c.requires.made h, h.threads)

pub returns-then-threads-ge-MAX_THREADS : goal.returns-then-threads-ge-MAX_THREADS
returns-then-threads-ge-MAX_THREADS c = record {
  is = λ m held.
      let a = c.args in
      thread-refused a.lines m (drop a.first.here a.text.now) (drop a.first.to a.text.now) (omega (arith, c.if-threads-ge-MAX_THREADS.true, held-threads a.table.now a.length m held));
}

pub add_thread-requires : goal.add_thread-requires
add_thread-requires c =
    (c.requires, c.if-threads-ge-MAX_THREADS.false)

pub returns : goal.returns
returns c = record {
  is = λ m held.
      let a = c.args in
      let next = left_by a.text.now a.first.here c.next_line.result _ c.next_line.ensures in
      lined-bare a.text.now a.first.to c.rows_ahead-rows.result a.length c.bare_then.result c.bare_then.ensures _ a.length (with_thread m) (c.add_thread.ensures m held) _
      (ap (λ (k : ℕ). bare_then k (with_thread m) (drop a.first.to a.text.now)) (c.rows_ahead-rows.ensures.is ∙ ap (rows_ahead a.lines) next)
      ∙ thread-begun a.lines m (drop a.first.here a.text.now) (drop a.first.to a.text.now) (omega (arith, c.if-threads-ge-MAX_THREADS.false, held-threads a.table.now a.length m held)));
}
