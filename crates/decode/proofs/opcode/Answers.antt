use mathlib.Core.Path.{refl}
use Rattle.decode.proofs.RowLaws.{told}
use Rattle.decode.proofs.opcode.Goals as goal

pub returns-in-Load : goal.returns-in-Load
returns-in-Load c = told _ c.in-Load.is refl

pub returns-in-Store : goal.returns-in-Store
returns-in-Store c = told _ c.in-Store.is refl

pub returns-in-StoreRegister : goal.returns-in-StoreRegister
returns-in-StoreRegister c = told _ c.in-StoreRegister.is refl

pub returns-in-Rmw : goal.returns-in-Rmw
returns-in-Rmw c = told _ c.in-Rmw.is refl

pub returns-in-Fence : goal.returns-in-Fence
returns-in-Fence c = told _ c.in-Fence.is refl

pub returns-in-UnsyncLoad : goal.returns-in-UnsyncLoad
returns-in-UnsyncLoad c = told _ c.in-UnsyncLoad.is refl

pub returns-in-WithMut : goal.returns-in-WithMut
returns-in-WithMut c = told _ c.in-WithMut.is refl

pub returns-in-Yield : goal.returns-in-Yield
returns-in-Yield c = told _ c.in-Yield.is refl

pub returns-in-Join : goal.returns-in-Join
returns-in-Join c = told _ c.in-Join.is refl

pub returns-in-Jump : goal.returns-in-Jump
returns-in-Jump c = told _ c.in-Jump.is refl

pub returns-in-JumpIf : goal.returns-in-JumpIf
returns-in-JumpIf c = told _ c.in-JumpIf.is refl

pub returns-in-JumpUnless : goal.returns-in-JumpUnless
returns-in-JumpUnless c = told _ c.in-JumpUnless.is refl

pub returns-in-Check : goal.returns-in-Check
returns-in-Check c = told _ c.in-Check.is refl

pub returns-in-Critical : goal.returns-in-Critical
returns-in-Critical c = told _ c.in-Critical.is refl

pub returns-in-ExploreState : goal.returns-in-ExploreState
returns-in-ExploreState c = told _ c.in-ExploreState.is refl

pub returns-in-SkipBranch : goal.returns-in-SkipBranch
returns-in-SkipBranch c = told _ c.in-SkipBranch.is refl

pub returns-in-Spurious : goal.returns-in-Spurious
returns-in-Spurious c = told _ c.in-Spurious.is refl

pub returns-in-PlainRead : goal.returns-in-PlainRead
returns-in-PlainRead c = told _ c.in-PlainRead.is refl

pub returns-in-PlainWrite : goal.returns-in-PlainWrite
returns-in-PlainWrite c = told _ c.in-PlainWrite.is refl
