use native.Mathlib.Omega.{arith}
use mathlib.Core.Logic.{inl, inr}
use Rattle.rules.specs.State.{store_at}
use Rattle.synchronize.proofs.SyncLaws.{load-alone, load-joins}
use Rattle.synchronize.proofs.sync_load.Goals as goal

pub returns-then-order-lt2 : goal.returns-then-order-lt2
returns-then-order-lt2 c =
    let args = c.args in
    load-alone _ args.access.thread (store_at args.access.cell args.slot) _ (inl (omega arith))

pub returns-in-2 : goal.returns-in-2
returns-in-2 c =
    let args = c.args in
    load-joins _ args.access.thread (store_at args.access.cell args.slot) args.access.order (omega arith) (omega arith) _ c.store_at-from.ensures _ c.join_into.ensures

pub returns-else-order-lt5 : goal.returns-else-order-lt5
returns-else-order-lt5 c =
    let args = c.args in
    load-alone _ args.access.thread (store_at args.access.cell args.slot) _ (inr (omega arith))
