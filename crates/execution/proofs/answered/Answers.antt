use Rattle.rules.specs.Table.{opcode_in}
use Rattle.layout.specs.Tables.{state}
use Rattle.decode.specs.Ops.{decoded_of}
use Rattle.execution.proofs.ActLaws.{slot-within, answers-as}
use Rattle.execution.proofs.answered.Goals as goal

pub read_from-requires : goal.read_from-requires
read_from-requires c =
    let pre = c.requires in
    (pre.0, slot-within _ _ _ c.in-Slot.is pre.1)

pub returns-in-Thread : goal.returns-in-Thread
returns-in-Thread c =
    let args = c.args in
    λ m.
    answers-as _ _ (decoded_of args.here.row) args.here.site.thread args.here.site.row (state args.clocks.now args.marks.now args.values.now args.numbers.now) _ c.in-Thread.is
    (c.switch.ensures args.marks.now args.values.now args.here.site.thread args.here.site.row (opcode_in (decoded_of args.here.row)) m)

pub returns-in-Nobody : goal.returns-in-Nobody
returns-in-Nobody c =
    let args = c.args in
    λ m.
    answers-as _ _ (decoded_of args.here.row) args.here.site.thread args.here.site.row (state args.clocks.now args.marks.now args.values.now args.numbers.now) _ c.in-Nobody.is
    (λ at. c.nobody.ensures args.clocks.now args.marks.now args.values.now args.here.site.thread args.here.site.row (opcode_in (decoded_of args.here.row)) at m)

pub returns-in-Slot : goal.returns-in-Slot
returns-in-Slot c =
    let args = c.args in
    λ m.
    answers-as _ _ (decoded_of args.here.row) args.here.site.thread args.here.site.row (state args.clocks.now args.marks.now args.values.now args.numbers.now) _ c.in-Slot.is
    (c.read_from.ensures m)

pub returns-in-Bit : goal.returns-in-Bit
returns-in-Bit c =
    let args = c.args in
    λ m.
    answers-as _ _ (decoded_of args.here.row) args.here.site.thread args.here.site.row (state args.clocks.now args.marks.now args.values.now args.numbers.now) _ c.in-Bit.is
    (c.take_bit.ensures args.clocks.now args.marks.now m)
