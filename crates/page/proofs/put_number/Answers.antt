use mathlib.Core.Path.{refl, ap, sym, ◌∙◌}
use lib.ListN.{length}
use Rattle.digits.proofs.ShownLaws.{front, within}
use Rattle.page.specs.Pages.{put_text}
use borrow.Author.Rules.{rules}
use Rattle.page.proofs.put_number.Goals as goal

pub slice_bounds-digits-end : goal.slice_bounds-digits-end
slice_bounds-digits-end c =
    within _ _ _ _ c.spell-k.ensures (search rules) refl

pub slice_bounds-put-end : goal.slice_bounds-put-end
slice_bounds-put-end c =
    c.spell-k.ensures.said ∙ ap length (sym (front _ _ _ _ c.spell-k.ensures (search rules) refl))

pub returns : goal.returns
returns c =
    c.put.ensures ∙ ap (put_text _) (front _ _ _ _ c.spell-k.ensures (search rules) refl)
