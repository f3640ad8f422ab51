-- Vectors, counts and marks are in range at every tick of every run, and at its end. Assumes nothing.
--     range-held       beside whatever lets the machine's questions be answered
use Prim.Native.Nat.{ℕ}
use lib.ListN.{length}
use Rattle.rules.specs.Explorer.{Walk}
use Rattle.rules.specs.Event.{Machine}
use Rattle.rules.specs.State.{State}
use Rattle.rules.specs.Machine.{machine}
use Rattle.ledger.specs.History.{courses, end}
use Rattle.ledger.proofs.Lists.{every_map}
use Rattle.kept.specs.Kept.{Holding, Asking}
use Rattle.kept.specs.Held.{HoldsOfWalk, HeldIn, HeldByAll}
use Rattle.kept.proofs.Held.{held}
use Rattle.kept.proofs.Both.{Together, AskedTogether, both}
use Rattle.bounds.specs.Bounds.{BoundsHold, BoundsAsked, BoundsLeft, InRange}
use Rattle.bounds.specs.Range.{RangeIn, RangeHeld}
use Rattle.bounds.proofs.Whole.{keeps, in-range}

pub range-held : RangeHeld
unfolding RangeHeld HeldByAll
range-held p fit H A O kept can limits n =
    let M : Machine = machine p in
    let both_hold : Holding M = Together M H (BoundsHold p) in
    let both-asked : Asking M = AskedTogether M A (BoundsAsked p) in
    let both-over : Holding M = Together M O (BoundsLeft p) in
    let over : (s : State) (m : ℕ) → BoundsHold p s m → BoundsLeft p s m = (keeps p fit).at_tick in
    every_map (HeldIn M both_hold both-asked both-over) (RangeIn p) (courses M limits n)
    (λ c h. record {
      by_rows = every_map (HoldsOfWalk M both_hold) (HoldsOfWalk M (BoundsLeft p)) c.ticks
          (λ w k. over w.state (length w.trace) k.1) h.at-ticks;
      end-by-rows = (h.at-end.0, h.at-end.1.1, h.at-end.2);
      in-range = every_map (HoldsOfWalk M both_hold) (λ (w : Walk State). InRange w.state) c.ticks
          (λ w k. in-range p fit w.state (length w.trace) (over w.state (length w.trace) k.1)) h.at-ticks;
      end-in-range = in-range p fit (end c).state h.at-end.0 h.at-end.1.1;
    })
    (held M limits both_hold both-asked both-over (both M H A O (BoundsHold p) (BoundsAsked p) (BoundsLeft p) kept (keeps p fit))
    (λ s m q k. can s m q k.0) n)
