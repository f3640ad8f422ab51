use borrow.Author.Rules.{rules}
use Rattle.listing.specs.Steps.{put_numbers}
use Rattle.listing.proofs.put_numbers.Goals as goal

pub returns : goal.returns
unfolding put_numbers
returns c = search rules
