use mathlib.Core.Path.{refl, ap, ◌∙◌}
use native.Mathlib.Omega.{arith}
use Rattle.page.specs.Pages.{put_text}
use Rattle.finally.proofs.FinalLaws.{nothing_put, never-past, words-cut, words-none}
use Rattle.finally.proofs.put_words.Goals as goal

pub returns-then-end-gt-CONDITION_LINE : goal.returns-then-end-gt-CONDITION_LINE
returns-then-end-gt-CONDITION_LINE c = absurd (never-past _ _ _ _ _ c.put-end.ensures c.if-end-gt-CONDITION_LINE.true)

pub returns-then-end-le-WORD : goal.returns-then-end-le-WORD
returns-then-end-le-WORD c = nothing_put _ _ (words-none _ _ _ _ _ c.put-end.ensures c.if-end-le-WORD.true)

pub returns : goal.returns
returns c =
    c.put.ensures ∙ ap (put_text _) (words-cut _ _ _ _ _ c.put-end.ensures refl (omega arith))
