use native.Mathlib.Omega.{arith}
use mathlib.Core.Path.{◌≡◌}
use Prim.Native.Nat.{◌+◌}
use Rattle.rules.specs.Table.{u16_at, u32_at, u64_at}
use Rattle.little.proofs.u64_at.Goals as goal

pub returns : goal.returns
unfolding u16_at u32_at u64_at
returns c =
    let three : c.args.at + 2 + 1 ≡ c.args.at + 3 = omega arith in
    let five : c.args.at + 4 + 1 ≡ c.args.at + 5 = omega arith in
    let seven : c.args.at + 4 + 2 + 1 ≡ c.args.at + 7 = omega arith in
    let six : c.args.at + 4 + 2 ≡ c.args.at + 6 = omega arith in
    rw (three, five, seven, six) (omega (arith, c.from_le_bytes.ensures))
