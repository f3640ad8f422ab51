use Rattle.decode.proofs.jump_if_row.Goals as goal

pub returns : goal.returns
returns c = cc
