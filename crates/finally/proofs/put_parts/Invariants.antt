use Prim.Native.Nat.{◌-◌}
use mathlib.Core.Path.{◌≡◌}
use lib.ListN.{length}
use Rattle.page.specs.Pages.{page_of}
use Rattle.finally.specs.Finals.{put_parts}
use Rattle.finally.proofs.put_parts.Given as goal

abbrev pub invariant-loop-part : goal.invariant-loop-part
invariant-loop-part l =
    put_parts (length l.condition - l._part) (page_of l.page l.to) l.condition l.threads l.held l.behind ≡ put_parts (length l.condition) (page_of l.initial.page l.at) l.condition l.threads l.held 0
