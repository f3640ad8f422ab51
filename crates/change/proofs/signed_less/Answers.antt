use Rattle.change.proofs.ChangeLaws.{signed-less}
use Rattle.change.proofs.signed_less.Goals as goal

pub returns : goal.returns
returns c = signed-less c.args.x c.args.y _ _ c.wrapping_add_u64.ensures.value c.wrapping_add_u64-2.ensures.value
