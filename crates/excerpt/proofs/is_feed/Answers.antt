use Rattle.excerpt.proofs.LineLaws.{feeds-past, feeds-feed, feeds-not, feeds-last, feeds-return}
use borrow.Author.Rules.{rules}
use Rattle.excerpt.proofs.is_feed.Goals as goal

pub returns-then-text-at : goal.returns-then-text-at
returns-then-text-at c = let a = c.args in feeds-past a.text.now a.at (search rules)

pub returns-then-text-at-eq10 : goal.returns-then-text-at-eq10
returns-then-text-at-eq10 c = let a = c.args in feeds-feed a.text.now a.at (search rules) (search rules)

pub returns-then-text-at-ne13 : goal.returns-then-text-at-ne13
returns-then-text-at-ne13 c = let a = c.args in feeds-not a.text.now a.at (search rules) (search rules) (search rules)

pub returns-then-text-at-2 : goal.returns-then-text-at-2
returns-then-text-at-2 c = let a = c.args in feeds-last a.text.now a.at (search rules) (search rules) (search rules) (search rules)

pub returns : goal.returns
returns c = let a = c.args in feeds-return a.text.now a.at (search rules) (search rules) (search rules)
