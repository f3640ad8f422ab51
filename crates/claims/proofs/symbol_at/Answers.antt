use mathlib.Core.Path.{◌≡◌, sym, ap, ◌∙◌}
use native.Mathlib.Omega.{arith}
use Rattle.rules.specs.Token.{found}
use Rattle.rules.specs.Text.{symbol_in}
use Rattle.token.specs.Places.{part}
use Rattle.token.specs.Finds.{found_of}
use Rattle.claims.proofs.UnitLaws.{symbol-most, symbol-none, symbol-sign, symbol-here}
use Rattle.claims.proofs.symbol_at.Goals as goal

pub returns-in_err-symbol : goal.returns-in_err-symbol
returns-in_err-symbol c =
    let a = c.args in
    rw c.from_residual.ensures (symbol-none a.text.now a.at a.to (sym c.symbol.ensures ∙ ap found_of c.in_err-symbol.was))

pub returns-then-symbol : goal.returns-then-symbol
returns-then-symbol c =
    let a = c.args in
    symbol-sign a.text.now a.at a.to _ (sym c.symbol.ensures ∙ ap found_of c.in_ok-symbol.was) c.if-symbol.true

pub overflow_cast-result : goal.overflow_cast-result
overflow_cast-result c =
    let value : symbol_in (part c.args.at c.args.to c.args.text.now) ≡ found c.in_ok-symbol.symbol =
    sym c.symbol.ensures ∙ ap found_of c.in_ok-symbol.was in
    omega (arith, symbol-most _ _ value)

pub returns : goal.returns
returns c =
    let a = c.args in
    symbol-here a.text.now a.at a.to _ (sym c.symbol.ensures ∙ ap found_of c.in_ok-symbol.was) c.if-symbol.false
