use Prim.Native.Nat.{◌+◌, ◌≤◌, ◌<◌}
use mathlib.Core.Path.{ap, ◌∙◌}
use native.Mathlib.Omega.{arith}
use lib.ListN.{length}
use Rattle.rules.specs.Text.{Draft}
use Rattle.rules.proofs.LittleLaws.{little-long}
use Rattle.filling.specs.Tables.{HeldTable, how_many}
use Rattle.filling.proofs.HeldLaws.{held-many, mid-many, mid-long, counts-low, value_room, held-value}
use Rattle.filling.proofs.add_value.Goals as goal

pub append-requires : goal.append-requires
append-requires c =
    let few : (m : Draft) → HeldTable c.args.table.now c.args.length m → how_many c.args.place m < 4 =
    λ m held. omega (arith, c.requires.2, held-many c.args.table.now c.args.length m held c.args.place c.requires.1) in
    let fits : (m : Draft) → HeldTable c.args.table.now c.args.length m → c.args.length + 8 ≤ length c.args.table.now =
    λ m held. value_room c.args.table.now c.args.length m held c.args.place c.requires.1 (few m held) in
    let room : c.args.length + length c.low_bytes-bytes.result ≤ length c.args.table.now =
    let a = c.args in
    let p = c.requires in
    let held = p.0.held in
    omega (arith, ap length c.low_bytes-bytes.ensures ∙ little-long 8 a.value, fits p.0.made held) in
    room

pub bounds-table-place : goal.bounds-table-place
bounds-table-place c =
    let few : (m : Draft) → HeldTable c.args.table.now c.args.length m → how_many c.args.place m < 4 =
    λ m held. omega (arith, c.requires.2, held-many c.args.table.now c.args.length m held c.args.place c.requires.1) in
    let fits : (m : Draft) → HeldTable c.args.table.now c.args.length m → c.args.length + 8 ≤ length c.args.table.now =
    λ m held. value_room c.args.table.now c.args.length m held c.args.place c.requires.1 (few m held) in
    let room : c.args.length + length c.low_bytes-bytes.result ≤ length c.args.table.now =
    let a = c.args in
    let p = c.requires in
    let held = p.0.held in
    omega (arith, ap length c.low_bytes-bytes.ensures ∙ little-long 8 a.value, fits p.0.made held) in
    let a = c.args in
    let p = c.requires in
    let h = p.0.held in
    omega (arith, h.room, counts-low a.place p.1, mid-long a.table.now a.length p.0.made h c.low_bytes-bytes.result _ room c.append.ensures)

pub overflow_add-table : goal.overflow_add-table
overflow_add-table c =
    let few : (m : Draft) → HeldTable c.args.table.now c.args.length m → how_many c.args.place m < 4 =
    λ m held. omega (arith, c.requires.2, held-many c.args.table.now c.args.length m held c.args.place c.requires.1) in
    let fits : (m : Draft) → HeldTable c.args.table.now c.args.length m → c.args.length + 8 ≤ length c.args.table.now =
    λ m held. value_room c.args.table.now c.args.length m held c.args.place c.requires.1 (few m held) in
    let room : c.args.length + length c.low_bytes-bytes.result ≤ length c.args.table.now =
    let a = c.args in
    let p = c.requires in
    let held = p.0.held in
    omega (arith, ap length c.low_bytes-bytes.ensures ∙ little-long 8 a.value, fits p.0.made held) in
    let a = c.args in
    let p = c.requires in
    omega (arith, few p.0.made p.0.held, mid-many a.table.now a.length p.0.made p.0.held c.low_bytes-bytes.result _ room c.append.ensures a.place p.1)

pub bounds-table-place-2 : goal.bounds-table-place-2
bounds-table-place-2 c =
    let few : (m : Draft) → HeldTable c.args.table.now c.args.length m → how_many c.args.place m < 4 =
    λ m held. omega (arith, c.requires.2, held-many c.args.table.now c.args.length m held c.args.place c.requires.1) in
    let fits : (m : Draft) → HeldTable c.args.table.now c.args.length m → c.args.length + 8 ≤ length c.args.table.now =
    λ m held. value_room c.args.table.now c.args.length m held c.args.place c.requires.1 (few m held) in
    let room : c.args.length + length c.low_bytes-bytes.result ≤ length c.args.table.now =
    let a = c.args in
    let p = c.requires in
    let held = p.0.held in
    omega (arith, ap length c.low_bytes-bytes.ensures ∙ little-long 8 a.value, fits p.0.made held) in
    let a = c.args in
    let p = c.requires in
    let h = p.0.held in
    omega (arith, h.room, counts-low a.place p.1, mid-long a.table.now a.length p.0.made h c.low_bytes-bytes.result _ room c.append.ensures)

pub returns : goal.returns
returns c =
    let few : (m : Draft) → HeldTable c.args.table.now c.args.length m → how_many c.args.place m < 4 =
    λ m held. omega (arith, c.requires.2, held-many c.args.table.now c.args.length m held c.args.place c.requires.1) in
    let fits : (m : Draft) → HeldTable c.args.table.now c.args.length m → c.args.length + 8 ≤ length c.args.table.now =
    λ m held. value_room c.args.table.now c.args.length m held c.args.place c.requires.1 (few m held) in
    λ m held.
    let a = c.args in
    held-value a.table.now a.length m held a.value c.low_bytes-bytes.result _ c.low_bytes-bytes.ensures c.append.ensures (fits m held) a.place c.requires.1 (few m held)
