use Prim.Native.Nat.{◌-◌}
use mathlib.Core.Path.{◌≡◌}
use Rattle.page.specs.Pages.{page_of}
use Rattle.listing.specs.Steps.{slots_in, put_each, put_offers}
use Rattle.listing.proofs.put_offers.Given as goal

abbrev pub invariant-loop-slot : goal.invariant-loop-slot
invariant-loop-slot l =
    put_each (page_of l.page l.to) l.first (slots_in l.rest (7 - l.slot) l.slot) ≡ put_offers (page_of l.initial.page l.at) l.mask
