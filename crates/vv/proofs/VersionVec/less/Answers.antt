use mathlib.Core.Path.{◌∙◌}
use Rattle.vv.proofs.Walks.{less-told}
use Rattle.vv.proofs.VersionVec.less.Goals as goal

pub returns : goal.returns
returns c = c.eq.ensures ∙ less-told _ _ _ c.partial_cmp.ensures
