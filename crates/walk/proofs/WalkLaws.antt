-- How far each part of a tick takes the cursor. Assumes nothing.
--     says-within              a choice names one of what there is
--     meet-faulted, meet-on      what a meeting comes to
--     take_on                  and the whole tick
use Prim.Native.Nat.{ℕ}
use mathlib.Core.List.{List}
use mathlib.Core.Path.{◌≡◌, subst}
use native.Mathlib.Omega.{arith}
use Rattle.event.specs.declared.Picked.{Picked}
use Rattle.event.specs.declared.Fault.{Fault}
use Rattle.event.specs.declared.Site.{Site}
use Rattle.execution.specs.Answers.{ChoiceWithin}
use Rattle.meeting.specs.Stands.{FaultMet}
use Rattle.meeting.specs.Branches.{CursorMarked, Met, ReplyWithin}
use Rattle.meeting.specs.Entries.{Kept}
use Rattle.meeting.specs.declared.Cursor.{Cursor}
use Rattle.meeting.specs.declared.Outcome.TheVariants as code
use Rattle.std.specs.Prelude.{Option, Some}
use Rattle.meeting.specs.declared.Ticked.{Ticked}
use Rattle.meeting.proofs.MetLaws.{met-ahead}
use Rattle.walk.specs.Walks.{CursorPlaced, Gone, Passed}

pub says-within : (r : Option Picked) {x : Picked} → r ≡ Some x → ReplyWithin r → ChoiceWithin x
says-within r e h = subst (λ (x : Option Picked). ReplyWithin x) e h

module _ {c : Cursor} {m : Ticked} {entry path trace : List ℕ} (placed : CursorPlaced c entry trace) (met : Met c m path) where
  pub meet-faulted : {r : Ticked} {f : Fault} {at : Site} → FaultMet f at m.cursor r → Gone c r.cursor 6 path trace
  meet-faulted s =
      record {
        placed = record {
          passed = omega (arith, met.passed, s.stays.same-pos, s.stays.same_len);
          within = omega (arith, met.within, s.stays.same_len);
          noted = omega (arith, placed.noted, met.same_entries, s.stays.same_entries);
        };
        few = omega (arith, met.few, s.stays.same-opened);
      }

  pub meet-on : {d e : Cursor} {exit : List ℕ} → m.outcome ≡ code.Goes → Passed m.cursor d → Kept d e exit → Gone c e 6 path exit
  meet-on goes p k =
      record {
        placed = record {
          passed = omega (arith, met-ahead met goes, p.more-pos, p.same_len, k.same-pos, k.same_len);
          within = omega (arith, met.within, p.same_len, k.same_len);
          noted = k.noted;
        };
        few = omega (arith, met.few, p.same-opened, k.same-opened);
      }

pub take_on : {c d e f : Cursor} {noted path trace : List ℕ} → Kept c d noted → CursorMarked d e → Gone e f 6 path trace → Gone c f 60 path trace
take_on k m g = record { placed = g.placed; few = omega (arith, k.same-opened, m.few, g.few) }
