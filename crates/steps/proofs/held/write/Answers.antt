use mathlib.Core.Path.{refl}
use borrow.Author.Tests.{lt-ltb}
use Rattle.steps.specs.Holds as holds
use Rattle.steps.proofs.HoldLaws.{puts}
use Rattle.steps.proofs.held.write.Goals as goal

pub returns : goal.returns
returns c = puts c.args.held.now (holds.plain_writer c.args.plain) _ refl (lt-ltb _ _ c.requires)
