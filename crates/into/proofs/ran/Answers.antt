use Rattle.into.proofs.ListedLaws.{refusal-made}
use Rattle.into.proofs.ran.Goals as goal

pub returns : goal.returns
returns c = refusal-made c.args.report.answer c.number-number.ensures c.is_refusal.ensures
