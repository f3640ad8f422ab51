use Rattle.meeting.proofs.BranchLaws.{thread-reaches, bit-reaches, slot-reaches}
use native.Mathlib.Omega.{arith}
use Rattle.meeting.proofs.MetLaws.{pushes-few, pushes-met, pushes-thread-few, pushes-thread-met}
use Rattle.meeting.proofs.add.Goals as goal

pub added-requires : goal.added-requires
added-requires c =
    (pushes-thread-few c.push_thread-pushed.ensures, omega (arith, c.requires, c.well_formed), omega (arith, c.requires))

pub added-requires-in-Bit : goal.added-requires-in-Bit
added-requires-in-Bit c =
    (pushes-few c.push_spurious-pushed.ensures (omega arith), omega (arith, c.requires, c.well_formed), omega (arith, c.requires))

pub returns-in-Thread : goal.returns-in-Thread
returns-in-Thread c =
    let args = c.args in
    thread-reaches args.cursor c.added.result args.here args.question args.clocks.now args.marks.now args.numbers.now args.path.now _ (pushes-thread-met args.cursor c.added.result c.requires.1 c.requires.2 args.here.site c.push_thread-pushed.ensures c.added.ensures) c.in-Thread.is c.is_exploring-exploring.ensures c.seed-seed.ensures c.requires.2 c.push_thread-pushed.ensures c.added.ensures

pub returns-in-Slot : goal.returns-in-Slot
returns-in-Slot c =
    let args = c.args in
    slot-reaches args.cursor c.add_load.result args.here args.question args.clocks.now args.marks.now args.numbers.now args.path.now _ c.add_load.ensures.met c.in-Slot.is c.add_load.ensures

pub returns-in-Bit : goal.returns-in-Bit
returns-in-Bit c =
    let args = c.args in
    bit-reaches args.cursor c.added-in-Bit.result args.here args.question args.clocks.now args.marks.now args.numbers.now args.path.now _ (pushes-met args.cursor c.added-in-Bit.result c.requires.1 c.requires.2 args.here.site (omega arith) c.push_spurious-pushed.ensures c.added-in-Bit.ensures) c.in-Bit.is c.is_exploring-exploring-in-Bit.ensures c.push_spurious-pushed.ensures c.added-in-Bit.ensures
