use borrow.Enum.Refused.{opened}
use mathlib.Core.Path.{refl}
use Rattle.rows.proofs.RowLaws.{pends-none, pends-as}
use Rattle.rows.proofs.pending_of.Goals as goal

pub returns-in-Load : goal.returns-in-Load
returns-in-Load c =
    pends-as _ _ _ _ c.in-Load.is c.on.ensures c.requires (λ w. record { is = refl; within = w.0 })

pub returns-in-Store : goal.returns-in-Store
returns-in-Store c =
    pends-as _ _ _ _ c.in-Store.is c.on-in-Store.ensures c.requires (λ w. record { is = refl; within = w })

pub returns-in-StoreRegister : goal.returns-in-StoreRegister
returns-in-StoreRegister c =
    pends-as _ _ _ _ c.in-StoreRegister.is c.on-in-StoreRegister.ensures c.requires (λ w. record { is = refl; within = w.0 })

pub returns-in-Rmw : goal.returns-in-Rmw
returns-in-Rmw c =
    pends-as _ _ _ _ c.in-Rmw.is c.on-in-Rmw.ensures c.requires (λ w. record { is = refl; within = w.0 })

pub returns-in_default : goal.returns-in_default
returns-in_default c = pends-none c.args.op (opened c.in_default.in_default-own.keys5)
