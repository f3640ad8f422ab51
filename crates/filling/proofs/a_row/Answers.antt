use Prim.Native.Nat.{ℕ, ◌+◌, ◌-◌, ◌≤◌, ◌<◌}
use mathlib.Core.List.{List}
use mathlib.Core.Path.{◌≡◌, ap, sym, ◌∙◌}
use native.Mathlib.Omega.{arith}
use lib.ListN.{get_or, drop}
use Rattle.rules.specs.Table.{max_rows}
use Rattle.rules.specs.Form.{row_in}
use Rattle.rules.specs.Text.{Draft, rows_so_far, with_row}
use Rattle.rules.proofs.LimitLaws.{rows_fit}
use Rattle.form.specs.Rows.{followed_of}
use Rattle.filling.specs.Tables.{HeldTable}
use Rattle.filling.proofs.HeldLaws.{held-threads, held-cells, held-plains, within, begun, count-there}
use Rattle.filling.proofs.LineLaws.{row-early, row-full, row-stuck, row_fits, passed_up}
use Rattle.filling.proofs.a_row.Goals as goal

-- what a row may name, by the header
named : (b : List ℕ) (n : ℕ) (m : Draft) → HeldTable b n m → 1 ≤ get_or b 0 0 → (all rows : ℕ) (bs : List ℕ)
    → row_in (record { threads = all; cells = m.cells; plains = m.plains; rows = rows; row = rows_so_far m }) bs
    ≡ row_in (record { threads = all; cells = get_or b 1 0; plains = get_or b 7 0; rows = rows; row = get_or b (1 + get_or b 0 0) 0 }) bs
named b n m held some all rows bs = rw (held-cells b n m held, held-plains b n m held, count-there b n m held some)

pub bounds-table-0 : goal.bounds-table-0
bounds-table-0 c =
    let a = c.args in
    let h = c.requires.held in
    let t = held-threads a.table.now a.reached.length c.requires.made h in
    omega (arith, h.room)

pub overflow_cast-threads : goal.overflow_cast-threads
overflow_cast-threads c =
    let a = c.args in
    let h = c.requires.held in
    let t = held-threads a.table.now a.reached.length c.requires.made h in
    omega (arith, t, h.threads)

pub returns-then-threads-eq0 : goal.returns-then-threads-eq0
returns-then-threads-eq0 c = record {
  is = λ m held.
      let a = c.args in
      row-early a.all a.reached.rows m (drop a.reached.at a.text.now) (drop a.here a.text.now) (omega (arith, c.if-threads-eq0.true, held-threads a.table.now a.reached.length m held));
}

pub overflow_add-before : goal.overflow_add-before
overflow_add-before c =
    let a = c.args in
    let h = c.requires.held in
    let t = held-threads a.table.now a.reached.length c.requires.made h in
    omega (arith, t, h.threads)

pub bounds-table-threads : goal.bounds-table-threads
bounds-table-threads c =
    let a = c.args in
    let h = c.requires.held in
    let t = held-threads a.table.now a.reached.length c.requires.made h in
    omega (arith, t, h.threads, h.room)

pub overflow_cast-before : goal.overflow_cast-before
overflow_cast-before c =
    let a = c.args in
    let h = c.requires.held in
    let m = c.requires.made in
    let some : 1 ≤ get_or a.table.now 0 0 = omega (arith, c.if-threads-eq0.false) in
    omega (arith, count-there a.table.now a.reached.length m h some, h.few (m.threads - 1), rows_fit)

pub returns-then-before-ge-MAX_ROWS : goal.returns-then-before-ge-MAX_ROWS
returns-then-before-ge-MAX_ROWS c = record {
  is = λ m held.
      let a = c.args in
      let some : 1 ≤ get_or a.table.now 0 0 = omega (arith, c.if-threads-eq0.false) in
      row-full a.all a.reached.rows m (drop a.reached.at a.text.now) (drop a.here a.text.now) (begun a.table.now a.reached.length m held some) (omega (arith, c.if-before-ge-MAX_ROWS.true, count-there a.table.now a.reached.length m held some));
}

pub bounds-table-1 : goal.bounds-table-1
bounds-table-1 c =
    let a = c.args in
    let h = c.requires.held in
    let t = held-threads a.table.now a.reached.length c.requires.made h in
    omega (arith, h.room)

pub overflow_cast-room : goal.overflow_cast-room
overflow_cast-room c =
    let a = c.args in
    let h = c.requires.held in
    let t = held-threads a.table.now a.reached.length c.requires.made h in
    omega (arith, held-cells a.table.now a.reached.length c.requires.made h, h.cells)

pub bounds-table-7 : goal.bounds-table-7
bounds-table-7 c =
    omega (arith, c.requires.held.room)

pub overflow_cast-room-2 : goal.overflow_cast-room-2
overflow_cast-room-2 c =
    let a = c.args in
    let h = c.requires.held in
    omega (arith, held-plains a.table.now a.reached.length c.requires.made h, h.plains)

pub returns-in_err-row : goal.returns-in_err-row
returns-in_err-row c =
    let refused = passed_up c.from_residual.result _ c.from_residual.ensures.1 in
    record {
      is = λ m held.
          let a = c.args in
          let some : 1 ≤ get_or a.table.now 0 0 = omega (arith, c.if-threads-eq0.false) in
          let few : rows_so_far m < max_rows = omega (arith, c.if-before-ge-MAX_ROWS.false, count-there a.table.now a.reached.length m held some) in
          let read = named a.table.now a.reached.length m held some a.all a.reached.rows (drop a.reached.at a.text.now) ∙ sym c.row_in.ensures.said in
          rw refused
          (row-stuck a.all a.reached.rows m (drop a.reached.at a.text.now) (drop a.here a.text.now) (begun a.table.now a.reached.length m held some) few _ (read ∙ ap (followed_of a.text.now) c.in_err-row.was));
    }

pub add_row-requires : goal.add_row-requires
add_row-requires c =
    record { holds = c.requires; some = omega (arith, c.if-threads-eq0.false); fewer = c.if-before-ge-MAX_ROWS.false }

pub overflow_add-result : goal.overflow_add-result
overflow_add-result c =
    omega (arith, within c.args.table.now c.args.reached.length c.requires.made c.requires.held)

pub returns : goal.returns
returns c = record {
  is = λ m held.
      let a = c.args in
      let some : 1 ≤ get_or a.table.now 0 0 = omega (arith, c.if-threads-eq0.false) in
      let few : rows_so_far m < max_rows = omega (arith, c.if-before-ge-MAX_ROWS.false, count-there a.table.now a.reached.length m held some) in
      let read = named a.table.now a.reached.length m held some a.all a.reached.rows (drop a.reached.at a.text.now) ∙ sym c.row_in.ensures.said in (
        with_row m c.in_ok-row.row.fields,
        (
          row_fits a.all a.reached.rows m (drop a.reached.at a.text.now) (drop a.here a.text.now) (begun a.table.now a.reached.length m held some) few _ _ (read ∙ ap (followed_of a.text.now) c.in_ok-row.was),
          c.add_row.ensures m held,
        ),
      );
}
