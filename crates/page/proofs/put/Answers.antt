use mathlib.Core.Path.{sym}
use native.Mathlib.Omega.{arith}
use Rattle.page.proofs.PageLaws.{text-lost, text-copied}
use Rattle.page.proofs.put.Goals as goal

pub returns-then-at-gt-PAGE_BYTES : goal.returns-then-at-gt-PAGE_BYTES
returns-then-at-gt-PAGE_BYTES c = sym (text-lost _ _ _ (omega arith))

pub returns : goal.returns
returns c =
    text-copied _ _ _ _ _ _ c.told-page c.if-at-gt-PAGE_BYTES.false c.min-n.ensures c.copy_from_slice.ensures.after (omega arith)
