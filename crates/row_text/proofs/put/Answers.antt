use mathlib.Core.Path.{ap, ◌∙◌}
use native.Mathlib.Omega.{arith}
use Rattle.page.specs.Pages.{put_text}
use Rattle.row_text.proofs.RowLaws.{nothing_put, said-none, said-some}
use Rattle.row_text.proofs.put.Goals as goal

pub returns-then-t-ge-MAX_THREADS : goal.returns-then-t-ge-MAX_THREADS
returns-then-t-ge-MAX_THREADS c = nothing_put _ _ (said-none _ _ _ (omega (arith, c.wide8-t.ensures.same)))

pub returns : goal.returns
returns c =
    c.put_at.ensures ∙ ap (put_text _) (said-some _ _ _ _ _ _ _ _ _ c.wide8-t.ensures.same (omega arith) c.shape-shape.ensures c.wide16.ensures.same c.wide16-2.ensures.same c.wide16-first.ensures.same c.wide8.ensures.same)
