use Rattle.settings.specs.Given.{settings_of}
use Rattle.settings.proofs.TestLaws.{settings-made}
use Rattle.settings.proofs.settings_fine.Goals as goal

pub returns : goal.returns
returns c =
    settings-made (settings_of c.args.settings) c.within.ensures c.within-2.ensures c.within-3.ensures
