use Rattle.rules.specs.Token.{bytes_of}
use Rattle.bad_row.specs.Words.{put_may}
use Rattle.bad_row.proofs.words.put_may.Goals as goal

pub returns-in-AnyOpcode : goal.returns-in-AnyOpcode
unfolding put_may
returns-in-AnyOpcode c = rw c.in-AnyOpcode.is c.put_last.ensures

pub returns-in-AnyCell : goal.returns-in-AnyCell
unfolding put_may
returns-in-AnyCell c = rw c.in-AnyCell.is c.put_present.ensures

pub returns-in-AnyPlain : goal.returns-in-AnyPlain
unfolding put_may
returns-in-AnyPlain c = rw c.in-AnyPlain.is c.put_present-in-AnyPlain.ensures

pub returns-in-AnyThread : goal.returns-in-AnyThread
unfolding put_may
returns-in-AnyThread c = rw c.in-AnyThread.is c.put_present-in-AnyThread.ensures

pub returns-in-AnyOrder : goal.returns-in-AnyOrder
unfolding put_may
returns-in-AnyOrder c = rw c.in-AnyOrder.is c.put_last-in-AnyOrder.ensures

pub returns-in-LoadOrder : goal.returns-in-LoadOrder
unfolding put_may bytes_of
returns-in-LoadOrder c = rw c.in-LoadOrder.is c.put.ensures

pub returns-in-StoreOrder : goal.returns-in-StoreOrder
unfolding put_may bytes_of
returns-in-StoreOrder c = rw c.in-StoreOrder.is c.put-in-StoreOrder.ensures

pub returns-in-FenceOrder : goal.returns-in-FenceOrder
unfolding put_may bytes_of
returns-in-FenceOrder c = rw c.in-FenceOrder.is c.put-in-FenceOrder.ensures

pub returns-in-AnyKind : goal.returns-in-AnyKind
unfolding put_may
returns-in-AnyKind c = rw c.in-AnyKind.is c.put_last-in-AnyKind.ensures

pub returns-in-AnyRegister : goal.returns-in-AnyRegister
unfolding put_may
returns-in-AnyRegister c = rw c.in-AnyRegister.is c.put_last-in-AnyRegister.ensures

pub returns-in-AnyTarget : goal.returns-in-AnyTarget
unfolding put_may bytes_of
returns-in-AnyTarget c = rw c.in-AnyTarget.is c.fill.ensures

pub returns-in-OtherTarget : goal.returns-in-OtherTarget
unfolding put_may bytes_of
returns-in-OtherTarget c = rw c.in-OtherTarget.is c.fill-in-OtherTarget.ensures
