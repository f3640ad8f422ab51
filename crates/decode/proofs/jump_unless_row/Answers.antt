use Rattle.decode.proofs.jump_unless_row.Goals as goal

pub returns : goal.returns
returns c = cc
