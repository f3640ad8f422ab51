use borrow.Author.Rules.{rules}
use Rattle.rules.specs.Token.{bytes_of}
use Rattle.listing.specs.Steps.{put_slot}
use Rattle.listing.proofs.put_slot.Goals as goal

pub returns-then-slot-eq-NO_SLOT : goal.returns-then-slot-eq-NO_SLOT
unfolding put_slot bytes_of
returns-then-slot-eq-NO_SLOT c = search rules

pub returns : goal.returns
unfolding put_slot bytes_of
returns c = search rules
