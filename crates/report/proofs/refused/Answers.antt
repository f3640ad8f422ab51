use Rattle.report.proofs.RecordLaws.{refused-so}
use Rattle.report.proofs.refused.Goals as goal

pub returns : goal.returns
returns c = refused-so c.args.answer c.absent.result c.absent.ensures
