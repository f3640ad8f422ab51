use Rattle.decode.proofs.RowLaws.{arm, rmw-arm, with-mut-arm, beyond, none_below, fine, some-fine}
use Rattle.decode.specs.Ops.{row_meant, room_meant}
use Rattle.rules.specs.Table.{row_decoded}
use mathlib.Core.Path.{refl}
use Rattle.decode.proofs.is_row.Goals as goal

pub returns-in-0 : goal.returns-in-0
unfolding row_decoded
returns-in-0 c =
    let g = c.args in
    some-fine _ c.is_some.ensures
    (arm (room_meant g.room) (row_meant g.row) 0 _ c.in-0.is c.load_row.ensures)

pub returns-in-1 : goal.returns-in-1
unfolding row_decoded
returns-in-1 c =
    let g = c.args in
    some-fine _ c.is_some-in-1.ensures
    (arm (room_meant g.room) (row_meant g.row) 1 _ c.in-1.is c.store_row.ensures)

pub returns-in-2 : goal.returns-in-2
unfolding row_decoded
returns-in-2 c =
    let g = c.args in
    some-fine _ c.is_some-in-2.ensures
    (arm (room_meant g.room) (row_meant g.row) 2 _ c.in-2.is c.store_register_row.ensures)

pub returns-in-3 : goal.returns-in-3
returns-in-3 c = fine c.is_rmw.ensures (rmw-arm _ _ _ c.in-3.is refl)

pub returns-in-4 : goal.returns-in-4
unfolding row_decoded
returns-in-4 c =
    let g = c.args in
    some-fine _ c.is_some-in-4.ensures
    (arm (room_meant g.room) (row_meant g.row) 4 _ c.in-4.is c.fence_row.ensures)

pub returns-in-5 : goal.returns-in-5
unfolding row_decoded
returns-in-5 c =
    let g = c.args in
    some-fine _ c.is_some-in-5.ensures
    (arm (room_meant g.room) (row_meant g.row) 5 _ c.in-5.is c.unsync_load_row.ensures)

pub returns-in-6 : goal.returns-in-6
returns-in-6 c = some-fine _ c.is_some-in-6.ensures (with-mut-arm _ _ _ c.in-6.is c.with_mut_row.ensures)

pub returns-in-7 : goal.returns-in-7
unfolding row_decoded
returns-in-7 c =
    let g = c.args in
    some-fine _ c.is_some-in-7.ensures
    (arm (room_meant g.room) (row_meant g.row) 7 _ c.in-7.is c.bare_row.ensures)

pub returns-in-8 : goal.returns-in-8
unfolding row_decoded
returns-in-8 c =
    let g = c.args in
    some-fine _ c.is_some-in-8.ensures
    (arm (room_meant g.room) (row_meant g.row) 8 _ c.in-8.is c.join_row.ensures)

pub returns-in-9 : goal.returns-in-9
unfolding row_decoded
returns-in-9 c =
    let g = c.args in
    some-fine _ c.is_some-in-9.ensures
    (arm (room_meant g.room) (row_meant g.row) 9 _ c.in-9.is c.jump_row.ensures)

pub returns-in-10 : goal.returns-in-10
unfolding row_decoded
returns-in-10 c =
    let g = c.args in
    some-fine _ c.is_some-in-10.ensures
    (arm (room_meant g.room) (row_meant g.row) 10 _ c.in-10.is c.jump_if_row.ensures)

pub returns-in-11 : goal.returns-in-11
unfolding row_decoded
returns-in-11 c =
    let g = c.args in
    some-fine _ c.is_some-in-11.ensures
    (arm (room_meant g.room) (row_meant g.row) 11 _ c.in-11.is c.jump_unless_row.ensures)

pub returns-in-12 : goal.returns-in-12
unfolding row_decoded
returns-in-12 c =
    let g = c.args in
    some-fine _ c.is_some-in-12.ensures
    (arm (room_meant g.room) (row_meant g.row) 12 _ c.in-12.is c.check_row.ensures)

pub returns-in-13 : goal.returns-in-13
unfolding row_decoded
returns-in-13 c =
    let g = c.args in
    some-fine _ c.is_some-in-13.ensures
    (arm (room_meant g.room) (row_meant g.row) 13 _ c.in-13.is c.bare_row-in-13.ensures)

pub returns-in-14 : goal.returns-in-14
unfolding row_decoded
returns-in-14 c =
    let g = c.args in
    some-fine _ c.is_some-in-14.ensures
    (arm (room_meant g.room) (row_meant g.row) 14 _ c.in-14.is c.bare_row-in-14.ensures)

pub returns-in-15 : goal.returns-in-15
unfolding row_decoded
returns-in-15 c =
    let g = c.args in
    some-fine _ c.is_some-in-15.ensures
    (arm (room_meant g.room) (row_meant g.row) 15 _ c.in-15.is c.bare_row-in-15.ensures)

pub returns-in-16 : goal.returns-in-16
unfolding row_decoded
returns-in-16 c =
    let g = c.args in
    some-fine _ c.is_some-in-16.ensures
    (arm (room_meant g.room) (row_meant g.row) 16 _ c.in-16.is c.spurious_row.ensures)

pub returns-in-17 : goal.returns-in-17
unfolding row_decoded
returns-in-17 c =
    let g = c.args in
    some-fine _ c.is_some-in-17.ensures
    (arm (room_meant g.room) (row_meant g.row) 17 _ c.in-17.is c.plain_read_row.ensures)

pub returns-in-18 : goal.returns-in-18
unfolding row_decoded
returns-in-18 c =
    let g = c.args in
    some-fine _ c.is_some-in-18.ensures
    (arm (room_meant g.room) (row_meant g.row) 18 _ c.in-18.is c.plain_write_row.ensures)

pub returns-in-19-to-255 : goal.returns-in-19-to-255
returns-in-19-to-255 c = fine refl (beyond _ _ (none_below 19 _ c.in-19-to-255.in-19-to-255-own.rest))
