use native.Mathlib.Omega.{arith}
use Rattle.excerpt.proofs.SeenLaws.{dots-none, dots-some}
use borrow.Author.Rules.{rules}
use Rattle.excerpt.proofs.put_dots.Goals as goal

pub returns-then-to-from : goal.returns-then-to-from
returns-then-to-from c = let a = c.args in dots-none a.page.now a.at a.from a.to a.byte (search rules) (omega arith)

pub returns : goal.returns
returns c = let a = c.args in dots-some _ _ a.at _ a.from a.to a.byte (omega arith) c.put_bytes.ensures
