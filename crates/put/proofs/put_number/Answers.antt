use mathlib.Core.Path.{refl, ap, sym, ◌∙◌}
use lib.ListN.{length}
use Rattle.digits.proofs.ShownLaws.{front, within}
use Rattle.put.proofs.PutLaws.{puts-are}
use Rattle.put.proofs.NumberLaws.{same-shown}
use borrow.Author.Rules.{rules}
use Rattle.put.proofs.put_number.Goals as goal

pub slice_bounds-digits-end : goal.slice_bounds-digits-end
slice_bounds-digits-end c =
    within _ _ _ _ c.spell-k.ensures (search rules) refl

pub slice_bounds-put_bytes-end : goal.slice_bounds-put_bytes-end
slice_bounds-put_bytes-end c =
    c.spell-k.ensures.said ∙ ap length (sym (front _ _ _ _ c.spell-k.ensures (search rules) refl))

pub returns : goal.returns
returns c =
    puts-are _ _ _ _ _ _ (front _ _ _ _ c.spell-k.ensures (search rules) refl ∙ same-shown _ (search rules)) c.put_bytes.ensures
