use native.Mathlib.Omega.{arith}
use Rattle.layout.specs.Tables.{state}
use Rattle.execution.proofs.StoreLaws.{some-within, stores_as, unsync-of}
use Rattle.execution.proofs.act_store.Goals as goal

pub store_row-requires : goal.store_row-requires
store_row-requires c =
    let own = some-within _ _ _ c.in-Some.is c.to_store.ensures.within in
    (omega (arith, own.0, c.requires.0), own.1)

pub returns-in-Some : goal.returns-in-Some
returns-in-Some c =
    let args = c.args in
    λ p m.
    stores_as p (state args.clocks.now args.marks.now args.values.now args.numbers.now) args.site.thread args.site.row args.op _ c.to_store.ensures.is _ c.in-Some.is (some-within _ _ _ c.in-Some.is c.to_store.ensures.within).0 c.store_row.result m _ (c.store_row.ensures _ m)

pub act_unsync-requires : goal.act_unsync-requires
act_unsync-requires c =
    (c.requires.0, c.requires.1, unsync-of _ _ _ c.in_default.is c.args.op c.to_store.ensures.is c.requires.2)

pub returns : goal.returns
returns c = λ p m. c.act_unsync.ensures p _ m
