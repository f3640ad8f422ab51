use borrow.Author.Rules.{rules}
use Rattle.rules.specs.Token.{bytes_of}
use Rattle.listing.specs.Steps.{put_offer}
use Rattle.listing.proofs.put_offer.Goals as goal

pub returns-then-first : goal.returns-then-first
unfolding put_offer bytes_of
returns-then-first c = search rules

pub returns : goal.returns
unfolding put_offer bytes_of
returns c = search rules
