use Prim.Native.Nat.{◌+◌}
use native.Mathlib.Omega.{arith}
use mathlib.Core.Path.{◌≡◌, sym, ◌∙◌}
use lib.ListN.{drop}
use Rattle.std.proofs.Common.{None}
use Rattle.decimal.proofs.Laws.{empty, behind-all, behind-next, behind-bad, behind-end}
use Rattle.decimal.proofs.number.Goals as goal

pub returns-then-is_empty : goal.returns-then-is_empty
returns-then-is_empty c = empty _ (grind arith)

pub loop-byte-init : goal.loop-byte-init
loop-byte-init c = behind-all _ (grind arith)

pub returns-in_err-value : goal.returns-in_err-value
returns-in_err-value c =
    let told : c.with_digit.result ≡ None = c.in_err-value.was in
    cc (behind-next _ c.loop-byte.byte-index c.loop-byte.value c.loop-byte-test.true, behind-bad (drop (c.loop-byte.byte-index + 1) c.args.text.now))

pub loop-byte-preserved : goal.loop-byte-preserved
loop-byte-preserved c =
    cc (behind-next _ c.loop-byte.byte-index c.loop-byte.value c.loop-byte-test.true, c.in_ok-value.was)

pub returns : goal.returns
returns c = sym (behind-end _ _ _ c.loop-byte-test.false) ∙ c.loop-byte.invariant
