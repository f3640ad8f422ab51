use mathlib.Core.Path.{◌≡◌}
use lib.ListN.{drop}
use Rattle.page.specs.Pages.{page_of, put_filled}
use Rattle.page.proofs.fill.Given as goal

abbrev pub invariant-loop-byte : goal.invariant-loop-byte
invariant-loop-byte l =
    put_filled (page_of l.page l.to) (drop l.byte-index l.text) l.now l.next l.c ≡ put_filled (page_of l.initial.page l.at) l.text l.a l.b l.c
