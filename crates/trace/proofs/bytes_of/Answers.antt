use Rattle.trace.specs.Entries.{entry_of}
use Rattle.trace.proofs.TraceLaws.{entry-bytes}
use Rattle.trace.proofs.bytes_of.Goals as goal

pub returns : goal.returns
returns c = entry-bytes (entry_of c.args.entry) c.low_bytes-value.result c.low_bytes-value.ensures
