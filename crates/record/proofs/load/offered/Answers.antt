use mathlib.Core.Path.{◌∙◌}
use Rattle.record.proofs.ChoiceLaws.{offered-many, offered-none, offered-bad, offered-some}
use Rattle.record.proofs.load.offered.Goals as goal
use Rattle.record.proofs.load.offered.Goals.{then-len-gt-MAX_ATOMIC_HISTORY-via-then-len-gt-MAX_ATOMIC_HISTORY, then-len-gt-MAX_ATOMIC_HISTORY-via-else-len-gt-MAX_ATOMIC_HISTORY+then-len-pos}

pub returns-then-len-gt-MAX_ATOMIC_HISTORY : goal.returns-then-len-gt-MAX_ATOMIC_HISTORY
returns-then-len-gt-MAX_ATOMIC_HISTORY c =
    let pos = c.wide8-pos.ensures.same ∙ c.field.ensures in
    let len = c.wide8-len.ensures.same ∙ c.field-2.ensures in
    let fits = c.requires in
    elim c.then-len-gt-MAX_ATOMIC_HISTORY.branch [
      | then-len-gt-MAX_ATOMIC_HISTORY-via-then-len-gt-MAX_ATOMIC_HISTORY w ↦ offered-many _ _ fits _ _ pos len w.if-len-gt-MAX_ATOMIC_HISTORY.true
      | then-len-gt-MAX_ATOMIC_HISTORY-via-else-len-gt-MAX_ATOMIC_HISTORY+then-len-pos w ↦ offered-none _ _ fits _ _ pos len w.if-len-pos.true
    ]

pub returns-then-slot-ge-MAX_ATOMIC_HISTORY : goal.returns-then-slot-ge-MAX_ATOMIC_HISTORY
returns-then-slot-ge-MAX_ATOMIC_HISTORY c =
    let pos = c.wide8-pos.ensures.same ∙ c.field.ensures in
    let len = c.wide8-len.ensures.same ∙ c.field-2.ensures in
    let fits = c.requires in
    offered-bad _ _ fits _ _ pos len c.if-len-gt-MAX_ATOMIC_HISTORY.false c.if-len-pos.false _ (c.wide8-slot.ensures.same ∙ c.field-3.ensures) c.if-slot-ge-MAX_ATOMIC_HISTORY.true

pub returns : goal.returns
returns c =
    let pos = c.wide8-pos.ensures.same ∙ c.field.ensures in
    let len = c.wide8-len.ensures.same ∙ c.field-2.ensures in
    let fits = c.requires in
    offered-some _ _ fits _ _ pos len c.if-len-gt-MAX_ATOMIC_HISTORY.false c.if-len-pos.false _ (c.wide8-slot.ensures.same ∙ c.field-3.ensures) _ c.with_mask.ensures
