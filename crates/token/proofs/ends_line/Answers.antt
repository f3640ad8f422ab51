use Prim.Native.Nat.{◌+◌}
use mathlib.Core.Path.{sym}
use native.Mathlib.Omega.{arith}
use lib.ListN.{get_or-eq_default}
use Rattle.std.proofs.lemmas.Bool.Decides.{nat_tests}
use Rattle.token.proofs.PlaceLaws.{ends-past, ends_here, ends-not, ends_return}
use Rattle.token.proofs.ends_line.Goals as goal

pub returns-then-text-at : goal.returns-then-text-at
returns-then-text-at c = sym (ends-past c.args.text.now c.args.at c.if-text-at.true)

pub returns-in-10 : goal.returns-in-10
returns-in-10 c = sym (ends_here c.args.text.now c.args.at c.if-text-at.false c.in-10.is)

pub returns-then-at-text : goal.returns-then-at-text
returns-then-at-text c = sym (ends_return c.args.text.now c.args.at c.if-text-at.false c.in-13.is)

pub returns-else-at-text : goal.returns-else-at-text
returns-else-at-text c =
    let a = c.args in
    let none = get_or-eq_default a.text.now 0 {n = a.at + 1} c.if-at-text.false in
    rw (ends_return a.text.now a.at c.if-text-at.false c.in-13.is, none) (grind (arith, nat_tests))

pub returns-in_default : goal.returns-in_default
returns-in_default c = sym (ends-not c.args.text.now c.args.at c.if-text-at.false (grind (arith, c.in_default)) (grind (arith, c.in_default)) (grind (arith, c.in_default)))
