use lib.ListN.{drop}
use Rattle.put.specs.Puts.{ToPut}
use Rattle.put.proofs.put_bytes.Given as goal

abbrev pub invariant-loop-byte : goal.invariant-loop-byte
invariant-loop-byte l = ToPut l.initial.text l.text l.at l.to l.bytes (drop l.byte-index l.bytes)
