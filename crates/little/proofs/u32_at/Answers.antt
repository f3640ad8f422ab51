use native.Mathlib.Omega.{arith}
use mathlib.Core.Path.{◌≡◌}
use Prim.Native.Nat.{◌+◌}
use Rattle.rules.specs.Table.{u16_at, u32_at}
use Rattle.little.proofs.u32_at.Goals as goal

pub returns : goal.returns
unfolding u16_at u32_at
returns c =
    let e : c.args.at + 2 + 1 ≡ c.args.at + 3 = omega arith in
    rw e (omega (arith, c.from_le_bytes.ensures))
