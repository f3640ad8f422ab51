use borrow.Enum.Refused.{opened}
use Rattle.execution.proofs.ActLaws.{op-within}
use Rattle.execution.proofs.StoreLaws.{operand-stored, register-stored, nothing_stored}
use Rattle.execution.proofs.to_store.Goals as goal

pub register_of-value-requires : goal.register_of-value-requires
register_of-value-requires c =
    let pre = c.requires in
    (pre.0, (op-within _ _ c.in-StoreRegister.is pre.1).1)

pub returns-in-Store : goal.returns-in-Store
returns-in-Store c = operand-stored _ _ _ _ _ _ c.in-Store.is c.requires.1

pub returns-in-StoreRegister : goal.returns-in-StoreRegister
returns-in-StoreRegister c =
    register-stored _ _ _ _ _ _ _ c.in-StoreRegister.is c.requires.1 c.register_of-value.ensures

pub returns-in_default : goal.returns-in_default
returns-in_default c = nothing_stored _ _ c.args.op (opened c.in_default.in_default-own.keys3)
