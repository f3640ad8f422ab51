use mathlib.Core.Path.{refl, ap, ◌∙◌}
use Rattle.std.specs.Prelude.{Some}
use Rattle.meeting.proofs.ReplyLaws.{thread-chosen, thread-nobody, thread-unexpected, slot_read, slot-unexpected, bit-said, bit-unexpected}
use Rattle.meeting.proofs.MetLaws.{reads-within}
use Rattle.meeting.proofs.answer.Goals as goal

pub returns-in_err-chosen-in-Thread : goal.returns-in_err-chosen-in-Thread
returns-in_err-chosen-in-Thread c =
    let args = c.args in
    rw c.from_residual.ensures (thread-unexpected args.path.now args.pos args.question c.in-Thread.is _ c.branch_thread.ensures c.in_err-chosen-in-Thread.was)

pub returns-in-Some : goal.returns-in-Some
returns-in-Some c =
    let args = c.args in
    thread-chosen args.path.now args.pos args.question c.in-Thread.is _ c.branch_thread.ensures (c.in_ok-chosen-in-Thread.was ∙ ap Some c.in-Some.is) refl

pub returns-in-None : goal.returns-in-None
returns-in-None c =
    let args = c.args in
    thread-nobody args.path.now args.pos args.question c.in-Thread.is _ c.branch_thread.ensures (c.in_ok-chosen-in-Thread.was ∙ ap Some c.in-None.is)

pub returns-in_err-slot-in-Slot : goal.returns-in_err-slot-in-Slot
returns-in_err-slot-in-Slot c =
    let args = c.args in
    rw c.from_residual-in_err-slot-in-Slot.ensures (slot-unexpected args.path.now args.pos args.question c.in-Slot.is _ c.branch_load.ensures c.in_err-slot-in-Slot.was)

pub returns-in_ok-slot-in-Slot : goal.returns-in_ok-slot-in-Slot
returns-in_ok-slot-in-Slot c =
    let args = c.args in
    slot_read args.path.now args.pos args.question c.in-Slot.is _ c.branch_load.ensures c.in_ok-slot-in-Slot.was (reads-within c.branch_load.ensures c.in_ok-slot-in-Slot.was)

pub returns-in_err-branch_spurious-in-Bit : goal.returns-in_err-branch_spurious-in-Bit
returns-in_err-branch_spurious-in-Bit c =
    let args = c.args in
    rw c.from_residual-in_err-branch_spurious-in-Bit.ensures (bit-unexpected args.path.now args.pos args.question c.in-Bit.is _ c.branch_spurious.ensures c.in_err-branch_spurious-in-Bit.was)

pub returns-in_ok-branch_spurious-in-Bit : goal.returns-in_ok-branch_spurious-in-Bit
returns-in_ok-branch_spurious-in-Bit c =
    let args = c.args in
    bit-said args.path.now args.pos args.question c.in-Bit.is _ c.branch_spurious.ensures c.in_ok-branch_spurious-in-Bit.was
