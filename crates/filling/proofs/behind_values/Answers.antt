use Rattle.filling.proofs.behind_values.Goals as goal

pub returns : goal.returns
returns c = c.bare_then.ensures
