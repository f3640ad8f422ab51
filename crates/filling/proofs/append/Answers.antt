use mathlib.Core.Path.{refl}
use native.Mathlib.Omega.{arith}
use lib.ListN.{length}
use Rattle.std.proofs.lemmas.Slice.{put_mid-paste}
use Rattle.filling.proofs.append.Goals as goal

pub returns : goal.returns
returns c =
    let bytes = c.args.bytes.now in
    put_mid-paste c.args.at _ c.args.buffer.now _ bytes (length bytes) c.copy_from_slice.ensures.after (omega arith) refl
