use mathlib.Core.Path.{ap, sym, ◌∙◌}
use Rattle.table.specs.Answers.{judged_of}
use Rattle.writer.proofs.IntoLaws.{into_bad}
use Rattle.writer.proofs.write.Goals as goal

pub write_fit-requires : goal.write_fit-requires
write_fit-requires c = sym c.judge.ensures ∙ ap judged_of c.in-Ok.is

pub returns-in-Err : goal.returns-in-Err
returns-in-Err c =
    let a = c.args in
    into_bad a.table.now a.condition.now a.text.now _ _ c.judge.ensures c.in-Err.is
