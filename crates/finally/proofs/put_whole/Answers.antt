use mathlib.Core.Path.{refl, ap, sym, ◌∙◌}
use lib.ListN.{length}
use Rattle.page.specs.Pages.{put_text}
use Rattle.finally.proofs.FinalLaws.{at-end, never-past, whole-cut}
use Rattle.finally.proofs.put_whole.Goals as goal

pub returns-then-end-gt-CONDITION_LINE : goal.returns-then-end-gt-CONDITION_LINE
returns-then-end-gt-CONDITION_LINE c = absurd (never-past _ _ _ _ _ c.put-end.ensures c.if-end-gt-CONDITION_LINE.true)

pub slice_bounds-put-end-2 : goal.slice_bounds-put-end-2
slice_bounds-put-end-2 c =
    let line = c.put-end.ensures in
    at-end _ _ _ _ _ line ∙ ap length (sym (whole-cut _ _ _ _ _ line refl))

pub returns : goal.returns
returns c = c.put.ensures ∙ ap (put_text _) (whole-cut _ _ _ _ _ c.put-end.ensures refl)
