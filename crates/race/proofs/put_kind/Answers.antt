use Rattle.rules.specs.Token.{bytes_of}
use Rattle.race.proofs.put_kind.Goals as goal

pub returns-in-Load : goal.returns-in-Load
unfolding bytes_of
returns-in-Load c = rw c.in-Load.is c.put.ensures

pub returns-in-UnsyncLoad : goal.returns-in-UnsyncLoad
unfolding bytes_of
returns-in-UnsyncLoad c = rw c.in-UnsyncLoad.is c.put-in-UnsyncLoad.ensures

pub returns-in-Store : goal.returns-in-Store
unfolding bytes_of
returns-in-Store c = rw c.in-Store.is c.put-in-Store.ensures

pub returns-in-Exclusive : goal.returns-in-Exclusive
unfolding bytes_of
returns-in-Exclusive c = rw c.in-Exclusive.is c.put-in-Exclusive.ensures

pub returns-in-PlainRead : goal.returns-in-PlainRead
unfolding bytes_of
returns-in-PlainRead c = rw c.in-PlainRead.is c.put-in-PlainRead.ensures

pub returns-in-PlainWrite : goal.returns-in-PlainWrite
unfolding bytes_of
returns-in-PlainWrite c = rw c.in-PlainWrite.is c.put-in-PlainWrite.ensures
