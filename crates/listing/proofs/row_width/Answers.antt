use Rattle.listing.proofs.StepLaws.{row-long}
use Rattle.listing.proofs.row_width.Goals as goal

pub returns : goal.returns
returns c = row-long _ _ _ _ _ _ c.put_row.ensures
