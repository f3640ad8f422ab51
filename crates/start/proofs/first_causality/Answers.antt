use native.Mathlib.Omega.{arith}
use mathlib.Core.Path.{◌≡◌}
use Rattle.start.proofs.StartLaws.{first-at}
use Rattle.start.proofs.first_causality.Goals as goal

pub returns-in-0 : goal.returns-in-0
returns-in-0 c = first-at c.args.thread 0 c.in-0.is

pub returns-in-1 : goal.returns-in-1
returns-in-1 c = first-at c.args.thread 1 c.in-1.is

pub returns-in-2 : goal.returns-in-2
returns-in-2 c = first-at c.args.thread 2 c.in-2.is

pub returns-in-3 : goal.returns-in-3
returns-in-3 c = first-at c.args.thread 3 c.in-3.is

pub returns-in_default : goal.returns-in_default
returns-in_default c =
    let n3 = c.in_default.in_default-own.rest.1 in
    let n2 = c.in_default.in_default-own.rest.0.1 in
    let n1 = c.in_default.in_default-own.rest.0.0.1 in
    let n0 = c.in_default.in_default-own.rest.0.0.0.1 in
    let e : c.args.thread ≡ 4 = omega (arith, c.requires) in
    first-at c.args.thread 4 e
