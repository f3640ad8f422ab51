use Rattle.settings.specs.Given.{settings_of}
use Rattle.into.proofs.ListedLaws.{miscounts-made}
use Rattle.into.proofs.miscounted.Goals as goal

pub returns : goal.returns
returns c =
    miscounts-made (settings_of c.args.settings) c.args.bytes c.args.listed c.settings_fine-fine.ensures c.holds_exactly-held.ensures
