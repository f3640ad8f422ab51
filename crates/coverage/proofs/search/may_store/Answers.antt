use borrow.Enum.Refused.{opened}
use mathlib.Core.Path.{refl}
use Rattle.coverage.proofs.SearchLaws.{stores_as, stores-else}
use Rattle.coverage.proofs.search.may_store.Goals as goal

pub returns-in-Store : goal.returns-in-Store
returns-in-Store c =
    stores_as _ _ _ _ _ _ c.in-Some.is c.in-Store.is c.one_if.ensures refl

pub returns-in-StoreRegister : goal.returns-in-StoreRegister
returns-in-StoreRegister c =
    stores_as _ _ _ _ _ _ c.in-Some.is c.in-StoreRegister.is c.one_if-in-StoreRegister.ensures refl

pub returns-in-Rmw : goal.returns-in-Rmw
returns-in-Rmw c =
    stores_as _ _ _ _ _ _ c.in-Some.is c.in-Rmw.is c.one_if-in-Rmw.ensures refl

pub returns-in_default-op : goal.returns-in_default-op
returns-in_default-op c = stores-else _ _ _ c.in-Some.is (opened c.in_default-op.in_default-op-own.keys4)
