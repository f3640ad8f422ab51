use Prim.Native.Nat.{◌<◌}
use mathlib.Core.Path.{◌≡◌, sym, ◌∙◌}
use mathlib.Core.Bool.{false}
use native.Mathlib.Omega.{arith}
use lib.ListN.{length, drop}
use Rattle.rules.specs.Token.{ends_line}
use Rattle.token.proofs.PlaceLaws.{ends-within, token-none, token-word, token-sign, token-byte}
use Rattle.token.proofs.token_end.Goals as goal

pub returns-then-ends_line : goal.returns-then-ends_line
returns-then-ends_line c =
    let a = c.args in
    omega (arith, token-none a.text.now a.at (sym c.ends_line.ensures ∙ c.if-ends_line.true))

pub bounds-text-at : goal.bounds-text-at
bounds-text-at c =
    let goes-on : ends_line (drop c.args.at c.args.text.now) ≡ false =
    sym c.ends_line.ensures ∙ c.if-ends_line.false in
    let inside : c.args.at < length c.args.text.now =
    ends-within _ _ goes-on in
    inside

pub returns-then-is_of : goal.returns-then-is_of
returns-then-is_of c =
    let goes-on : ends_line (drop c.args.at c.args.text.now) ≡ false =
    sym c.ends_line.ensures ∙ c.if-ends_line.false in
    let a = c.args in
    omega (arith, c.run_end.ensures, token-word a.text.now a.at goes-on (sym c.is_of.ensures ∙ c.if-is_of.true))

pub returns-then-is_of-2 : goal.returns-then-is_of-2
returns-then-is_of-2 c =
    let goes-on : ends_line (drop c.args.at c.args.text.now) ≡ false =
    sym c.ends_line.ensures ∙ c.if-ends_line.false in
    let a = c.args in
    omega (arith, c.run_end-then-is_of-2.ensures, token-sign a.text.now a.at goes-on (sym c.is_of.ensures ∙ c.if-is_of.false) (sym c.is_of-2.ensures ∙ c.if-is_of-2.true))

pub overflow_add-result : goal.overflow_add-result
overflow_add-result c =
    let goes-on : ends_line (drop c.args.at c.args.text.now) ≡ false =
    sym c.ends_line.ensures ∙ c.if-ends_line.false in
    let inside : c.args.at < length c.args.text.now =
    ends-within _ _ goes-on in
    omega (arith, inside)

pub returns : goal.returns
returns c =
    let goes-on : ends_line (drop c.args.at c.args.text.now) ≡ false =
    sym c.ends_line.ensures ∙ c.if-ends_line.false in
    let a = c.args in
    omega (arith, token-byte a.text.now a.at goes-on (sym c.is_of.ensures ∙ c.if-is_of.false) (sym c.is_of-2.ensures ∙ c.if-is_of-2.false))
