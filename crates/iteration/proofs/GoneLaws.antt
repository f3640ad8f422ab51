-- How far the ticks of an execution take the cursor. Assumes nothing.
--     gone-more, faulted-gone      a tick more, and a fault
use Prim.Native.Nat.{ℕ, ◌+◌, ◌≤◌}
use mathlib.Core.List.{List}
use native.Mathlib.Omega.{arith}
use Rattle.event.specs.declared.Fault.{Fault}
use Rattle.event.specs.declared.Site.{Site}
use Rattle.meeting.specs.Stands.{FaultMet}
use Rattle.meeting.specs.declared.Cursor.{Cursor}
use Rattle.meeting.specs.declared.Ticked.{Ticked}
use Rattle.walk.specs.Walks.{Gone}

pub gone-more : {c d e : Cursor} {n m most : ℕ} {path trace path' trace' : List ℕ} → Gone c d n path trace → Gone d e m path' trace' → n + m ≤ most → Gone c e most path' trace'
gone-more g h l = record { placed = h.placed; few = omega (arith, g.few, h.few) }

pub faulted-gone : {f : Fault} {at : Site} {c d : Cursor} {r : Ticked} {n most : ℕ} {path trace : List ℕ} → Gone c d n path trace → FaultMet f at d r → n ≤ most → Gone c r.cursor most path trace
faulted-gone g s l =
    record {
      placed = record {
        passed = omega (arith, g.placed.passed, s.stays.same-pos, s.stays.same_len);
        within = omega (arith, g.placed.within, s.stays.same_len);
        noted = omega (arith, g.placed.noted, s.stays.same_entries);
      };
      few = omega (arith, g.few, s.stays.same-opened);
    }
