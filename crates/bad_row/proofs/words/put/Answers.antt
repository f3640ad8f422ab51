use Rattle.rules.specs.Token.{bytes_of}
use Rattle.bad_row.specs.Words.{put_value, put_wrong}
use Rattle.bad_row.proofs.words.put.Goals as goal

pub returns-in-Ok : goal.returns-in-Ok
unfolding put_wrong put_value bytes_of
returns-in-Ok c =
    rw (← c.may_be.ensures, ← c.put_field-to.ensures, ← c.field_value-value.ensures, c.in-Ok.is, ← c.fill-to.ensures) c.put_may.ensures

pub returns-in-Err-ByOpcode : goal.returns-in-Err-ByOpcode
unfolding put_wrong put_value
returns-in-Err-ByOpcode c =
    let a = c.in-Err-ByOpcode in
    rw (← c.may_be.ensures, ← c.put_field-to.ensures, ← c.field_value-value.ensures, a.is, a.field-0-is) c.put_unused.ensures

pub returns-in-Err-ByKind : goal.returns-in-Err-ByKind
unfolding put_wrong put_value bytes_of
returns-in-Err-ByKind c =
    let a = c.in-Err-ByKind in
    rw (← c.may_be.ensures, ← c.put_field-to.ensures, ← c.field_value-value.ensures, a.is, a.field-0-is) c.fill.ensures
