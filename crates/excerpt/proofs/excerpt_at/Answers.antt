use Rattle.excerpt.proofs.SeenLaws.{excerpt-is}
use Rattle.excerpt.proofs.excerpt_at.Goals as goal

pub returns : goal.returns
returns c =
    let a = c.args in
    excerpt-is a.text.now a.line a.column _ _ _ c.line_begin-begin.ensures c.line_end-end.ensures c.place_in.ensures
