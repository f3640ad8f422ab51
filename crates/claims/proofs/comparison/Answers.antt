use Rattle.rules.proofs.LittleLaws.{eight-bytes}
use Rattle.claims.proofs.UnitLaws.{owned-compared}
use borrow.Author.Rules.{rules}
use Rattle.claims.proofs.comparison.Goals as goal

pub returns : goal.returns
returns c =
    let a = c.args in
    owned-compared a.sign a.owned.thread a.owned.register a.n _ (search rules) (eight-bytes c.low_bytes-number.result a.n c.low_bytes-number.ensures)
