use Rattle.trace.specs.Entries.{entry_of}
use Rattle.trace.proofs.TraceLaws.{note-none, note-one}
use Rattle.trace.proofs.note.Goals as goal

pub returns-then-trace-entries : goal.returns-then-trace-entries
returns-then-trace-entries c =
    let a = c.args in
    note-none a.trace.now a.entries (entry_of a.entry) c.if-trace-entries.true

pub returns : goal.returns
returns c =
    let a = c.args in
    note-one a.trace.now _ _ a.entries (entry_of a.entry) c.if-trace-entries.false c.bytes_of.ensures c.write.ensures
