use mathlib.Core.Path.{sym}
use native.Mathlib.Omega.{arith}
use Rattle.filling.proofs.HeldLaws.{held-threads}
use Rattle.filling.proofs.LineLaws.{passed_up}
use Rattle.reader.proofs.WholeLaws.{piece-most, closes-refused, closes-taken}
use Rattle.reader.proofs.concluded.Goals as goal

pub bounds-table-0 : goal.bounds-table-0
bounds-table-0 c = omega (arith, c.requires.0.held.room)

pub overflow_cast-threads : goal.overflow_cast-threads
overflow_cast-threads c =
    let h = c.requires.0.held in
    omega (arith, held-threads c.args.table.now c.args.reached.length c.requires.0.made h, h.threads)

pub returns-in_err-end : goal.returns-in_err-end
returns-in_err-end c =
    let refused = passed_up c.from_residual.result _ c.from_residual.ensures.1 in
    record {
      is = λ m held.
          let a = c.args in
          rw refused
          (closes-refused a.text.now a.table.now a.reached.at a.lines _ a.reached.length c.concluded.result c.concluded.ensures m held (sym (held-threads a.table.now a.reached.length m held)) _ c.in_err-end.was);
    }

pub append-requires : goal.append-requires
append-requires c =
    let piece = piece-most c.in_ok-end.end.bytes c.in_ok-end.end.length c.part.result.now c.part.ensures in
    omega (arith, piece, (c.concluded.ensures.within c.in_ok-end.end c.in_ok-end.was).0, c.requires.1.room)

pub returns : goal.returns
returns c = record {
  is = λ m held.
      let a = c.args in
      closes-taken a.text.now a.table.now a.reached.at a.lines _ a.reached.length c.concluded.result c.concluded.ensures m held (sym (held-threads a.table.now a.reached.length m held)) c.in_ok-end.end c.in_ok-end.was a.condition.now _ c.part.result.now c.requires.1 c.part.ensures c.append.ensures;
}
