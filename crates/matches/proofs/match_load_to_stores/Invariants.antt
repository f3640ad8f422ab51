use mathlib.Core.Path.{◌≡◌}
use Prim.Native.Nat.{◌≤◌, ◌-◌}
use Rattle.rules.specs.Cell.{live_in, load_fate, matched_from}
use Rattle.matches.specs.Offers.{offered}
use Rattle.matches.proofs.OfferLaws.{offering}
use Rattle.matches.proofs.match_load_to_stores.Given as goal

abbrev pub invariant-loop-i : goal.invariant-loop-i
invariant-loop-i l =
    let fate = load_fate l.clocks l.marks l.numbers l.access.thread l.access.cell l.access.order in
    (l.n ≤ l.i) × (offering l.dst l.n l.i (matched_from fate (l.live - l.i) l.i) ≡ offered (matched_from fate (live_in l.numbers l.access.cell) 0) l.initial.dst)
