use mathlib.Core.Path.{◌≡◌, refl, ap, ◌∙◌}
use Rattle.std.specs.Prelude.{Ok}
use Rattle.event.specs.declared.Moved.{Moved}
use Rattle.event.specs.declared.Moved.TheVariants as event
use Rattle.meeting.proofs.ComesLaws.{conclude-moves, conclude-done, conclude-asks, conclude-ends, conclude-stops}
use Rattle.meeting.proofs.conclude.Goals as goal

pub returns-in-Ok-Moves : goal.returns-in-Ok-Moves
returns-in-Ok-Moves c =
    let arm = c.in-Ok-Moves in
    let is : arm.field-0 ≡ event.Moves = rw arm.is at arm.field-0-is in
    conclude-moves c.args.here c.args.cursor c.goes.result c.args.event _ c.requires (arm.is ∙ ap (λ (e : Moved). Ok e) is) c.goes.ensures

pub returns-in-Ok-Done : goal.returns-in-Ok-Done
returns-in-Ok-Done c =
    let arm = c.in-Ok-Done in
    let is : arm.field-0 ≡ event.Done arm.slot arm.mask arm.value = rw arm.is at arm.field-0-is in
    conclude-done c.args.here c.args.cursor c.note.result c.args.event (arm.is ∙ ap (λ (e : Moved). Ok e) is) c.note.ensures

pub returns-in-Ok-Asks : goal.returns-in-Ok-Asks
returns-in-Ok-Asks c =
    let arm = c.in-Ok-Asks in
    let is : arm.field-0 ≡ event.Asks arm.field-0-0 arm.field-0-1 = rw arm.is at arm.field-0-is in
    conclude-asks c.args.here c.args.cursor c.faulted.result c.args.event _ c.requires (arm.is ∙ ap (λ (e : Moved). Ok e) is) c.faulted.ensures

pub returns-in-Ok-Ends : goal.returns-in-Ok-Ends
returns-in-Ok-Ends c =
    let arm = c.in-Ok-Ends in
    let is : arm.field-0 ≡ event.Ends = rw arm.is at arm.field-0-is in
    conclude-ends c.args.here c.args.cursor _ c.args.event _ c.requires (arm.is ∙ ap (λ (e : Moved). Ok e) is) refl (record { same_len = refl; same-pos = refl; same-opened = refl; same_entries = refl })

pub returns-in-Err : goal.returns-in-Err
returns-in-Err c =
    conclude-stops c.args.here c.args.cursor c.faulted-in-Err.result c.args.event _ c.requires c.in-Err.is c.faulted-in-Err.ensures
