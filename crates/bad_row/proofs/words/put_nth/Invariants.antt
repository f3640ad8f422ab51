use Prim.Native.Nat.{◌≤◌, ◌-◌}
use mathlib.Core.Path.{◌≡◌}
use lib.ListN.{drop}
use Rattle.page.specs.Pages.{page_of, put_text}
use Rattle.bad_row.specs.Words.{part_past}
use Rattle.bad_row.proofs.WordLaws.{part_left}
use Rattle.bad_row.proofs.words.put_nth.Given as goal

abbrev pub invariant-loop-i : goal.invariant-loop-i
invariant-loop-i l =
    (l.past ≤ l.i)
    × (put_text (page_of l.page l.to) (part_left l.n l.past (drop l.i l.list)) ≡ put_text (page_of l.initial.page l.at) (part_past l.n l.list))
