use mathlib.Core.Path.{ap}
use native.Mathlib.Omega.{arith}
use borrow.Author.Rules.{rules}
use Rattle.page.specs.Pages.{put_text}
use Rattle.bad_row.proofs.WordLaws.{part-whole, part-comma, part-byte, part-other, part_end}
use Rattle.bad_row.proofs.words.put_nth.Goals as goal
use Rattle.bad_row.proofs.words.put_nth.Goals.{else-list-i-eq44+else-past-n, else-list-i-eq44+then-past-n, then-list-i-eq44}

pub loop-i-init : goal.loop-i-init
loop-i-init c = (search rules, ap (put_text _) (part-whole _ _))

pub loop-i-preserved : goal.loop-i-preserved
loop-i-preserved c =
    let h = c.loop-i-test.true in
    let left = c.loop-i.invariant.1 in (
      elim c.if-list-i-eq44.branch [
        | then-list-i-eq44 w ↦ omega arith
        | else-list-i-eq44+then-past-n w ↦ omega arith
        | else-list-i-eq44+else-past-n w ↦ omega arith
      ],
      elim c.if-list-i-eq44.branch [
        | then-list-i-eq44 w ↦ rw (w.page-is, w.to-is, w.past-is) (part-comma _ _ _ _ _ _ left h w.if-list-i-eq44.true)
        | else-list-i-eq44+then-past-n w ↦ rw (w.page-is, w.to-is, w.past-is) (part-byte _ _ _ _ _ _ left h _ w.put-to.ensures w.if-list-i-eq44.false w.if-past-n.true)
        | else-list-i-eq44+else-past-n w ↦ rw (w.page-is, w.to-is, w.past-is) (part-other _ _ _ _ _ _ left h w.if-list-i-eq44.false w.if-past-n.false)
      ],
    )

pub returns : goal.returns
returns c = part_end _ _ _ _ _ _ c.loop-i.invariant.1 c.loop-i-test.false
