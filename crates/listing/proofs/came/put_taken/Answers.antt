use borrow.Author.Rules.{rules}
use Rattle.rules.specs.Token.{bytes_of}
use Rattle.listing.specs.Words.{put_taken}
use Rattle.listing.proofs.came.put_taken.Goals as goal

pub returns-then-taken : goal.returns-then-taken
unfolding put_taken bytes_of
returns-then-taken c = search rules

pub returns : goal.returns
unfolding put_taken bytes_of
returns c = search rules
