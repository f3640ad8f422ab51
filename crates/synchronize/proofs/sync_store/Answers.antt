use mathlib.Core.Logic.{inl, inr}
use Rattle.synchronize.proofs.SyncLaws.{store-alone, store-joins}
use Rattle.synchronize.proofs.sync_store.Goals as goal
use Rattle.synchronize.proofs.sync_store.Goals.{in-1-1, in_default+else-order-lt3+then-order-lt5}

pub returns-in_default : goal.returns-in_default
returns-in_default c = store-alone _ _ _ _ _ c.join-sync.ensures c.in_default.in_default-own.rest.1 (inl c.in_default.if-order-lt3-own.true)

pub returns-in_default-2 : goal.returns-in_default-2
returns-in_default-2 c = store-alone _ _ _ _ _ c.join-sync.ensures c.in_default.in_default-own.rest.1 (inr c.in_default.if-order-lt5-own.false)

pub returns-in-1 : goal.returns-in-1
returns-in-1 c =
    store-joins
    _
    _
    _
    _
    _
    c.join-sync.ensures
    (elim c.in-1-1.branch [
      | in-1-1 w ↦ inl w.in-1-1.keys1
      | in_default+else-order-lt3+then-order-lt5 w ↦ inr (w.if-order-lt3-1.false, w.if-order-lt5-1.true)
    ])
    _
    c.join.ensures
