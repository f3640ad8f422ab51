use borrow.Author.Rules.{rules}
use Rattle.listing.specs.Steps.{put_slots}
use Rattle.listing.proofs.put_slots.Goals as goal

pub returns : goal.returns
unfolding put_slots
returns c = search rules
