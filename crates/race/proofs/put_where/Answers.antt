use borrow.Author.Rules.{rules}
use Rattle.rules.specs.Token.{bytes_of}
use Rattle.race.specs.Races.{put_where}
use Rattle.race.proofs.put_where.Goals as goal

pub returns-in-PlainRead : goal.returns-in-PlainRead
unfolding put_where bytes_of
returns-in-PlainRead c = search rules

pub returns-in_default : goal.returns-in_default
unfolding put_where bytes_of
returns-in_default c = search rules
