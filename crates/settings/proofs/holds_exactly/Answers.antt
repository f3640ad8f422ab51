use Rattle.settings.proofs.TestLaws.{holds-both, holds_not}
use Rattle.settings.proofs.holds_exactly.Goals as goal

pub returns-then-bytes-eq0 : goal.returns-then-bytes-eq0
returns-then-bytes-eq0 c =
    holds-both c.args.bytes c.args.records c.if-bytes-eq0.true

pub returns-else-bytes-eq0 : goal.returns-else-bytes-eq0
returns-else-bytes-eq0 c =
    holds_not c.args.bytes c.args.records c.if-bytes-eq0.false
