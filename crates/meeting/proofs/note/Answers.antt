use borrow.Author.Tests.{not-false, not-true}
use Rattle.meeting.proofs.ComesLaws.{note-full, note-written}
use borrow.Author.Rules.{rules}
use Rattle.meeting.proofs.note.Goals as goal

pub returns-then-not-note : goal.returns-then-not-note
returns-then-not-note c =
    let args = c.args in
    note-full args.cursor c.faulted.result args.here _ args.slot args.mask args.value c.opcode_in.ensures _ c.note.ensures c.requires (not-true _ c.if-not-note.true-raw) c.faulted.ensures

pub returns : goal.returns
returns c =
    let args = c.args in
    note-written args.cursor c.goes.result args.here _ args.slot args.mask args.value c.opcode_in.ensures _ c.note.ensures c.requires (not-false _ c.if-not-note.false-raw) c.goes.ensures.is (search rules)
