use Prim.Native.Nat.{◌+◌, ◌≤◌}
use mathlib.Core.Path.{◌≡◌, ap, ◌∙◌}
use native.Mathlib.Omega.{arith}
use lib.ListN.{length}
use Rattle.filling.proofs.HeldLaws.{mid-threads, mid-count, mid-long, length-row_bytes, row-fewer, row_room, held-row}
use borrow.Author.Rules.{rules}
use Rattle.filling.proofs.add_row.Goals as goal

pub append-requires : goal.append-requires
append-requires c =
    let room : c.args.length + length c.row_bytes-bytes.result ≤ length c.args.table.now =
    let nine : length c.args.fields ≡ 9 = search rules in
    let a = c.args in
    let p = c.requires in
    omega (arith, ap length c.row_bytes-bytes.ensures ∙ length-row_bytes a.fields nine, row_room a.table.now a.length p.holds.made p.holds.held p.some p.fewer) in
    room

pub overflow_cast-thread : goal.overflow_cast-thread
overflow_cast-thread c =
    let room : c.args.length + length c.row_bytes-bytes.result ≤ length c.args.table.now =
    let nine : length c.args.fields ≡ 9 = search rules in
    let a = c.args in
    let p = c.requires in
    omega (arith, ap length c.row_bytes-bytes.ensures ∙ length-row_bytes a.fields nine, row_room a.table.now a.length p.holds.made p.holds.held p.some p.fewer) in
    let a = c.args in
    let p = c.requires in
    let h = p.holds.held in
    omega (arith, h.threads, h.room, mid-threads a.table.now a.length p.holds.made h c.row_bytes-bytes.result _ room c.append.ensures, mid-long a.table.now a.length p.holds.made h c.row_bytes-bytes.result _ room c.append.ensures)

pub overflow_add-rows : goal.overflow_add-rows
overflow_add-rows c =
    let room : c.args.length + length c.row_bytes-bytes.result ≤ length c.args.table.now =
    let nine : length c.args.fields ≡ 9 = search rules in
    let a = c.args in
    let p = c.requires in
    omega (arith, ap length c.row_bytes-bytes.ensures ∙ length-row_bytes a.fields nine, row_room a.table.now a.length p.holds.made p.holds.held p.some p.fewer) in
    let a = c.args in
    let p = c.requires in
    let h = p.holds.held in
    omega (arith, h.threads, h.room, mid-threads a.table.now a.length p.holds.made h c.row_bytes-bytes.result _ room c.append.ensures, mid-long a.table.now a.length p.holds.made h c.row_bytes-bytes.result _ room c.append.ensures)

pub bounds-table-thread : goal.bounds-table-thread
bounds-table-thread c =
    let room : c.args.length + length c.row_bytes-bytes.result ≤ length c.args.table.now =
    let nine : length c.args.fields ≡ 9 = search rules in
    let a = c.args in
    let p = c.requires in
    omega (arith, ap length c.row_bytes-bytes.ensures ∙ length-row_bytes a.fields nine, row_room a.table.now a.length p.holds.made p.holds.held p.some p.fewer) in
    let a = c.args in
    let p = c.requires in
    let h = p.holds.held in
    omega (arith, h.threads, h.room, mid-threads a.table.now a.length p.holds.made h c.row_bytes-bytes.result _ room c.append.ensures, mid-long a.table.now a.length p.holds.made h c.row_bytes-bytes.result _ room c.append.ensures)

pub overflow_add-table : goal.overflow_add-table
overflow_add-table c =
    let room : c.args.length + length c.row_bytes-bytes.result ≤ length c.args.table.now =
    let nine : length c.args.fields ≡ 9 = search rules in
    let a = c.args in
    let p = c.requires in
    omega (arith, ap length c.row_bytes-bytes.ensures ∙ length-row_bytes a.fields nine, row_room a.table.now a.length p.holds.made p.holds.held p.some p.fewer) in
    let a = c.args in
    let p = c.requires in
    let h = p.holds.held in
    omega (arith, h.threads, h.room, mid-threads a.table.now a.length p.holds.made h c.row_bytes-bytes.result _ room c.append.ensures, row-fewer a.table.now a.length p.holds.made h p.some p.fewer, mid-count a.table.now a.length p.holds.made h p.some p.fewer c.row_bytes-bytes.result _ room c.append.ensures)

pub overflow_add-table-2 : goal.overflow_add-table-2
overflow_add-table-2 c =
    let room : c.args.length + length c.row_bytes-bytes.result ≤ length c.args.table.now =
    let nine : length c.args.fields ≡ 9 = search rules in
    let a = c.args in
    let p = c.requires in
    omega (arith, ap length c.row_bytes-bytes.ensures ∙ length-row_bytes a.fields nine, row_room a.table.now a.length p.holds.made p.holds.held p.some p.fewer) in
    let a = c.args in
    let p = c.requires in
    let h = p.holds.held in
    omega (arith, h.threads, h.room, mid-threads a.table.now a.length p.holds.made h c.row_bytes-bytes.result _ room c.append.ensures, mid-long a.table.now a.length p.holds.made h c.row_bytes-bytes.result _ room c.append.ensures)

pub bounds-table-thread-2 : goal.bounds-table-thread-2
bounds-table-thread-2 c =
    let room : c.args.length + length c.row_bytes-bytes.result ≤ length c.args.table.now =
    let nine : length c.args.fields ≡ 9 = search rules in
    let a = c.args in
    let p = c.requires in
    omega (arith, ap length c.row_bytes-bytes.ensures ∙ length-row_bytes a.fields nine, row_room a.table.now a.length p.holds.made p.holds.held p.some p.fewer) in
    let a = c.args in
    let p = c.requires in
    let h = p.holds.held in
    omega (arith, h.threads, h.room, mid-threads a.table.now a.length p.holds.made h c.row_bytes-bytes.result _ room c.append.ensures, mid-long a.table.now a.length p.holds.made h c.row_bytes-bytes.result _ room c.append.ensures)

pub returns : goal.returns
returns c =
    let nine : length c.args.fields ≡ 9 = search rules in
    λ m held.
    let a = c.args in
    let p = c.requires in
    held-row a.table.now a.length m held p.some p.fewer a.fields c.row_bytes-bytes.result _ c.row_bytes-bytes.ensures nine c.append.ensures
