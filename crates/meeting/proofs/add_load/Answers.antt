use mathlib.Core.Path.{refl}
use Rattle.meeting.proofs.MetLaws.{faulted-met}
use Rattle.meeting.proofs.BranchLaws.{offers-reaches, equal-reaches}
use native.Mathlib.Omega.{arith}
use Rattle.meeting.proofs.MetLaws.{pushes-few, pushes-met}
use Rattle.meeting.proofs.add_load.Goals as goal

pub returns-in_default : goal.returns-in_default
returns-in_default c =
    let args = c.args in
    equal-reaches args.cursor c.faulted.result args.here args.clocks.now args.marks.now args.numbers.now args.path.now _ _ c.offers.result c.offers.ensures (faulted-met args.cursor c.faulted.result c.requires.1 c.requires.2 c.faulted.ensures) c.in_default.is c.faulted.ensures

pub added-requires : goal.added-requires
added-requires c =
    (pushes-few c.push_load-pushed.ensures (omega arith), omega (arith, c.requires, c.well_formed), omega (arith, c.requires))

pub returns : goal.returns
returns c =
    let args = c.args in
    offers-reaches args.cursor c.added.result args.here args.clocks.now args.marks.now args.numbers.now args.path.now _ _ _ c.offers.result c.offers.ensures (pushes-met args.cursor c.added.result c.requires.1 c.requires.2 args.here.site (omega arith) c.push_load-pushed.ensures c.added.ensures) c.is_exploring-exploring.result c.in-Ok.is c.is_exploring-exploring.ensures refl c.push_load-pushed.ensures c.added.ensures
