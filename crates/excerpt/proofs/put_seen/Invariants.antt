use mathlib.Core.List.{map}
use lib.ListN.{drop}
use Rattle.put.specs.Puts.{ToPut}
use Rattle.excerpt.specs.Excerpts.{seen_as}
use Rattle.excerpt.proofs.put_seen.Given as goal

abbrev pub invariant-loop-byte : goal.invariant-loop-byte
invariant-loop-byte l = ToPut l.initial.page l.page l.at l.to (map (seen_as l.below) l.bytes) (map (seen_as l.below) (drop l.byte-index l.bytes))
