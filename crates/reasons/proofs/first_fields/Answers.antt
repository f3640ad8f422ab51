use Rattle.reasons.specs.Wrong.{first_fields}
use Rattle.reasons.proofs.first_fields.Goals as goal

pub returns : goal.returns
unfolding first_fields
returns c = (cc)
