use lib.ListN.{length}
use borrow.Author.Rules.{rules}
use borrow.Author.Tests.{ne_eqb}
use Rattle.rules.specs.Token.{bytes_of}
use Rattle.verdict.specs.Verdicts.{put_passed}
use Rattle.verdict.proofs.put_passed.Goals as goal

pub returns-then-is_empty : goal.returns-then-is_empty
unfolding put_passed
returns-then-is_empty c = search rules

pub returns : goal.returns
unfolding put_passed bytes_of
returns c =
    rw (ne_eqb (length c.args.condition.now) 0 (search rules), ← c.put-to.ensures) c.put.ensures
