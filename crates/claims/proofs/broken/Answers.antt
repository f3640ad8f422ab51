use Rattle.claims.proofs.broken.Goals as goal

pub returns : goal.returns
returns c = cc
