use mathlib.Core.Path.{◌∙◌}
use Rattle.meeting.proofs.ComesLaws.{opcode-of, opcode-refused}
use Rattle.meeting.proofs.opcode_in.Goals as goal

pub returns-in-Some : goal.returns-in-Some
returns-in-Some c =
    c.opcode.ensures ∙ opcode-of _ _ c.in-Some.is

pub returns-in-None : goal.returns-in-None
returns-in-None c =
    opcode-refused _ c.in-None.is
