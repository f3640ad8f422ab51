use Rattle.ending.proofs.finish.Goals as goal

pub returns : goal.returns
returns c = λ bs marks values h l. cc (c.finished.ensures marks values, c.«open».ensures.is bs h l)
