use mathlib.Core.Path.{◌∙◌}
use native.Mathlib.Omega.{arith}
use Rattle.decimal.proofs.Laws.{no_digit, too_large, added}
use Rattle.decimal.proofs.with_digit.Goals as goal

pub returns-then-not-is_ascii_digit : goal.returns-then-not-is_ascii_digit
returns-then-not-is_ascii_digit c = no_digit _ _ (cc (c.is_ascii_digit.ensures.value))

pub returns-in_err-checked_mul : goal.returns-in_err-checked_mul
returns-in_err-checked_mul c =
    c.from_residual.ensures ∙ too_large _ _ (grind arith) (grind arith) (omega (arith, c.in_err-checked_mul.ensures))

pub returns : goal.returns
returns c = added _ _ _ _ (grind arith) (grind arith) (omega (arith, c.in_ok-checked_mul.ensures)) c.checked_add.ensures
